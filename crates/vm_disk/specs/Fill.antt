-- A list that is filled up.
use Rattle.std.specs.Prelude.{ℕ, ◌-◌, ◌++◌, List, length, replicate}

-- a list to which an element was added until there are this many
abbrev pub filled_up : {T : Type 0} → ℕ → T → List T → List T
filled_up count item items = items ++ replicate (count - length items) item
