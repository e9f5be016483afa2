use Rattle.back_core.specs.Run.{journal_of}
use Rattle.back_core.proofs.Alone.{host_alone}
use Rattle.back_core.proofs.Idle.{may_push, may_run, still_settled, idle, all_done}
use Rattle.back_core.proofs.Work.{work_falls}
use Rattle.back_core.proofs.Meets.{fresh, inside, accepts, alone, still_live, forgotten}
use Rattle.back_core.proofs.run_laws.runs_meet_the_device.Goals as goal

pub returns-clause-fresh : goal.returns-clause-fresh
returns-clause-fresh c = fresh

pub returns-clause-inside : goal.returns-clause-inside
returns-clause-inside c = inside

pub returns-clause-settled : goal.returns-clause-settled
returns-clause-settled c = host_alone

pub returns-clause-accepts : goal.returns-clause-accepts
returns-clause-accepts c = accepts

pub returns-clause-pushes : goal.returns-clause-pushes
returns-clause-pushes c = λ h b run. may_push h b run

pub returns-clause-runs : goal.returns-clause-runs
returns-clause-runs c = λ h batch node n run. may_run h run batch node n

pub returns-clause-destroys : goal.returns-clause-destroys
returns-clause-destroys c = λ h read k item run were. still_live h read run were k item

pub returns-clause-left_alone : goal.returns-clause-left_alone
returns-clause-left_alone c = λ h read k item run were. alone h read run were k item

pub returns-clause-stays_settled : goal.returns-clause-stays_settled
returns-clause-stays_settled c = λ h list id. still_settled list (journal_of h) id

pub returns-clause-forgotten : goal.returns-clause-forgotten
returns-clause-forgotten c = forgotten

pub returns-clause-idle : goal.returns-clause-idle
returns-clause-idle c = λ h batch node run all. idle h run all batch node

pub returns-clause-done : goal.returns-clause-done
returns-clause-done c = λ h g index number run none all none_left. all_done h run all none none_left g index number

pub returns-clause-less : goal.returns-clause-less
returns-clause-less c = work_falls
