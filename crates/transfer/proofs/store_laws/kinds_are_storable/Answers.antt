use Rattle.transfer.proofs.store_laws.kinds_are_storable.Goals as goal

pub returns : goal.returns
returns c = λ info kind. record { columns = kind.2; rows = kind.4 }
