use Rattle.back_core.proofs.EndsClean.{ends_clean, cleaned_clean, all_covered}
use Rattle.back_core.proofs.end_laws.runs_end_clean.Goals as goal

pub returns : goal.returns
returns c = record { clean = ends_clean; cleaned = cleaned_clean; covers = all_covered }
