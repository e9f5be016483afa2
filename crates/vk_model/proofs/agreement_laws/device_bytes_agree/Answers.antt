use Rattle.vk_model.proofs.Bytes.{agrees_nothing, agrees_runs, agrees_reads}
use Rattle.vk_model.proofs.agreement_laws.device_bytes_agree.Goals as goal

pub returns : goal.returns
returns c = record { starts = agrees_nothing; runs = agrees_runs; reads = agrees_reads }
