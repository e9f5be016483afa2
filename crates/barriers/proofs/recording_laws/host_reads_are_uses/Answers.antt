use Rattle.barriers.proofs.HostReads.{read_fenced, none_again}
use Rattle.barriers.proofs.recording_laws.host_reads_are_uses.Goals as goal

pub returns : goal.returns
returns c = record {
  fenced = λ id is_image uses touch f host none. read_fenced id is_image uses touch host none f;
  again = none_again;
}
