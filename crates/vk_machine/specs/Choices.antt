-- Which of the ready nodes a choice names.
use Rattle.std.specs.Prelude.{ℕ, ◌-◌, ◌%◌}
use Rattle.rand_xoshiro.specs.Xoshiro256.{plus_plus}
use Rattle.vk_machine.specs.declared.choice.Choice.{Choice}
use Rattle.vk_machine.specs.declared.choice.Choice.TheVariants.{First, Last, Words}

-- the number of the node that runs, of so many ready ones
abbrev pub chosen : Choice → ℕ → ℕ
chosen First ready = 0
chosen Last ready = ready - 1
chosen (Words state) ready = (plus_plus state).0 % ready

-- the choice after it, which has drawn one word
abbrev pub next_choice : Choice → Choice
next_choice First = First
next_choice Last = Last
next_choice (Words state) = Words (plus_plus state).1
