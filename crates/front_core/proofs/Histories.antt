-- The data of the calls of a history that has one entry more.
use Rattle.std.proofs.Common.{List, [], ◌∷◌, ◌++◌}
use Rattle.gl_calls.specs.declared.reply.Entry.{Entry}
use Rattle.gl_model.specs.Sizes.{HasItsData, HaveTheirData}

-- each call of a history has its data, and so does one more
pub data_of_each : (history : List Entry) (e : Entry) → HaveTheirData history → HasItsData e.call → HaveTheirData (history ++ e ∷ [])
data_of_each [] e all one = (one, tt)
data_of_each (x ∷ rest) e all one = (all.0, data_of_each rest e all.1 one)
