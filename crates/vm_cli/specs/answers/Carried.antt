-- What was written of a text, and what is still to be.
use Rattle.std.specs.Prelude.{◌≡◌, ℕ, List, ◌++◌, Option}
use Rattle.std.specs.Io.KnownBytes.{Appends}

-- the first bytes of a whole were written, and the rest of it is left
pub record Carries (before after : Option (List ℕ)) (rest whole : List ℕ) : Type 0 where
  pub sent : List ℕ
  pub split : whole ≡ sent ++ rest
  pub written : Appends before after sent

-- a writer was given these bytes
abbrev pub Gains : {W : Type 0} → (W → Option (List ℕ)) → List ℕ → W → W → Type 0
Gains contents bytes writer writer' = Appends (contents writer) (contents writer') bytes

-- a writer was given the first bytes of a whole, and the rest of it is left
abbrev pub GainsBut : {W : Type 0} → (W → Option (List ℕ)) → List ℕ → List ℕ → W → W → Type 0
GainsBut contents rest whole writer writer' = Carries (contents writer) (contents writer') rest whole

-- the first bytes of a whole were written, and not more
pub record WritesStart (before after : Option (List ℕ)) (whole : List ℕ) : Type 0 where
  pub rest : List ℕ
  pub carries : Carries before after rest whole

-- a writer was given the first bytes of a whole, and not more
abbrev pub Begins : {W : Type 0} → (W → Option (List ℕ)) → List ℕ → W → W → Type 0
Begins contents whole writer writer' = WritesStart (contents writer) (contents writer') whole
