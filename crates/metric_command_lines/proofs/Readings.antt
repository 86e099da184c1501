-- What is read of an argument that may be missing.
use Rattle.std.proofs.Common.{◌≡◌, ◌∙◌, refl, sym, ap, Bool, true, false, not, Option, Some, None, option_map}
use Rattle.std.specs.Borrow.{Bor}
use Rattle.std.specs.Prelude.{is_some}
use Rattle.clap.specs.Words.{Text}

-- it is there where its text is
pub given_some : (read : Option (Bor Text)) → is_some read ≡ is_some (option_map (λ s. s.now) read)
given_some None = refl
given_some (Some text) = refl

twice : (test : Bool) → test ≡ not (not test)
twice true = refl
twice false = refl

-- nothing is there where it is not that something is
pub none_is_not_some : (none : Bool) (some : Bool) → some ≡ not none → none ≡ not some
none_is_not_some none some is = twice none ∙ ap not (sym is)
