-- The lines of lists.
use Rattle.std.specs.Fmt.{decimal}
use Rattle.std.specs.Prelude.{◌++◌, ℕ, List, [], ◌∷◌, Option, Some, None, codes}
use Rattle.vm_types.specs.declared.change.Change.{Change}
use Rattle.vm_types.specs.declared.change.Conflict.{Conflict}
use Rattle.vm_types.specs.declared.key.Key.{Key}
use Rattle.vm_cli.specs.lines.Escapes.{value_text}

-- a key, with a space (32) at its end
abbrev pub key_words : Key → List ℕ
key_words key = decimal key.table ++ (32 ∷ (decimal key.number ++ 32 ∷ []))

-- a record, with the line feed (10) at its end
abbrev pub record_text : Key → List ℕ → List ℕ
record_text key value = codes "record " ++ (key_words key ++ (value_text value ++ 10 ∷ []))

-- the parent of an alternative, or `~` for none
abbrev pub parent_text : Option (List ℕ) → List ℕ
parent_text None = codes "~"
parent_text (Some name) = name

-- an alternative
abbrev pub alternative_text : List ℕ → Option (List ℕ) → List ℕ
alternative_text name parent = codes "alternative " ++ (name ++ (32 ∷ (parent_text parent ++ 10 ∷ [])))

-- a checkpoint
abbrev pub checkpoint_text : List ℕ → List ℕ
checkpoint_text name = codes "checkpoint " ++ (name ++ 10 ∷ [])

-- a value, or `~` for absence
abbrev pub optional_text : Option (List ℕ) → List ℕ
optional_text None = codes "~"
optional_text (Some value) = value_text value

-- a change, with the value before and the value after
abbrev pub change_text : Change → List ℕ
change_text change =
    codes "change " ++ (key_words change.key ++ (optional_text change.before ++ (32 ∷ (optional_text change.after ++ 10 ∷ []))))

-- a conflict, with the base's value, the parent's and one's own
abbrev pub conflict_text : Conflict → List ℕ
conflict_text conflict =
    codes "conflict " ++ (key_words conflict.key ++ (optional_text conflict.base ++ (32 ∷ (optional_text conflict.parent ++ (32 ∷ (optional_text conflict.mine ++ 10 ∷ []))))))
