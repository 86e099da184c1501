-- Texts that are written one after the other.
use Rattle.std.proofs.Common.{ℕ, List, ◌++◌, Option, sym, ap, ◌∙◌, append_assoc}
use Rattle.std.specs.Io.KnownBytes.{Appends}
use Rattle.std.proofs.KnownBytes.{Appends-trans}
use Rattle.metric_io.specs.Prefix.{AppendsPrefix}

-- a prefix of the first of two texts
pub prefix_of_first : (a b : Option (List ℕ)) (first second : List ℕ) → AppendsPrefix a b first → AppendsPrefix a b (first ++ second)
prefix_of_first a b first second p = record {
  done = p.done;
  rest = p.rest ++ second;
  whole = ap (λ l. l ++ second) p.whole ∙ append_assoc p.done p.rest second;
  appends = p.appends;
}

-- after the first of two texts, a prefix of the second
pub prefix_of_second : (a b c : Option (List ℕ)) (first second : List ℕ) → Appends a b first → AppendsPrefix b c second → AppendsPrefix a c (first ++ second)
prefix_of_second a b c first second written p = record {
  done = first ++ p.done;
  rest = p.rest;
  whole = ap (λ l. first ++ l) p.whole ∙ sym (append_assoc first p.done p.rest);
  appends = Appends-trans a b c first p.done written p.appends;
}

pub ruleset two_texts = (prefix_of_first, Appends-trans)
