-- How a file is opened.
use Rattle.std.specs.Prelude.{◌≡◌, false}
use Rattle.std.specs.Fs.{asks_append, asks_create, asks_truncate}
use Rattle.std.specs.declared.fs.options.OpenOptions.{OpenOptions}

-- to open a file in this way changes none that is there: it is not cut, nor taken for a new one, and nothing goes to its end
pub record KeepsFile (how : OpenOptions) : Type 0 where
  pub uncut : asks_truncate how ≡ false
  pub as_found : asks_create how ≡ false
  pub in_place : asks_append how ≡ false
