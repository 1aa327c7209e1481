-- What is known of the bytes that a session, or the whole program, is given and writes.
use Rattle.std.specs.Prelude.{◌≡◌, ℕ, List, Option}

-- of a writer: what it held before, and what it holds after
pub record Written : Type 0 where
  pub before : Option (List ℕ)
  pub after : Option (List ℕ)

abbrev pub between : Option (List ℕ) → Option (List ℕ) → Written
between before after = record { before = before; after = after }

abbrev pub written_to : {W : Type 0} → (W → Option (List ℕ)) → W → W → Written
written_to contents writer writer' = between (contents writer) (contents writer')

-- of a session: what the reader had to give, and what was written to the output
pub record SessionStreams : Type 0 where
  pub input : Option (List ℕ)
  pub output : Written

abbrev pub streams_of : Option (List ℕ) → Option (List ℕ) → Option (List ℕ) → SessionStreams
streams_of input before after = record { input = input; output = between before after }

-- ---- writers

-- a writer, as it was and as it is, and what is known of the bytes that it holds
pub record Writer (W : Type 0) : Type 0 where
  pub contents : W → Option (List ℕ)
  pub old : W
  pub new : W

abbrev pub writer : {W : Type 0} → (W → Option (List ℕ)) → W → W → Writer W
writer contents old new = record { contents = contents; old = old; new = new }

-- nothing was written to it
abbrev pub IsUntouched : {W : Type 0} → Writer W → Type 0
IsUntouched it = it.new ≡ it.old

-- what was written to it
abbrev pub written : {W : Type 0} → Writer W → Written
written it = written_to it.contents it.old it.new

-- those of the program
pub record Writers (W F : Type 0) : Type 0 where
  pub output : Writer W
  pub errors : Writer F

abbrev pub writers : {W F : Type 0} → Writer W → Writer F → Writers W F
writers output errors = record { output = output; errors = errors }

-- up to this moment of the errors
abbrev pub until : {W F : Type 0} → F → Writers W F → Writers W F
until said to = writers to.output (writer to.errors.contents to.errors.old said)
