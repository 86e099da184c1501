-- What a part adds to the language of what stands after it.
use Rattle.std.proofs.Common.{◌≡◌, ℕ, ◌⊎◌, inl, inr, Bool, true, false, List, [], ◌∷◌, ◌++◌, take, drop, Option, None, Some, Result, Ok, Err, refl, sym, ap, subst, ◌∙◌, append_assoc, take-append-drop}
use Rattle.std.specs.List.{list_all}
use Rattle.std.specs.Str.{bytes_eq}
use Rattle.std.proofs.lemmas.Slice.Eq.{bytes_eq-Decides}
use Rattle.metric_base.specs.Steps.{◌>>=◌}
use Rattle.metric_parts.specs.Input.{is_content}
use Rattle.metric_parts.specs.Reading.{contents_len, part_in, part_unless, optional_part_in}
use Rattle.metric_parts.proofs.Languages.{Lines, first, IsEnded, Follows, GoesOn, FaultAt, Reads, first_same, same_cut, contents-front, contents-back}

-- A part under a header, and then what its contents allow.
pub record IsPart {Y : Type 0} (header : List ℕ) (L : Lines → Lines → Y → Type 0) (lines : Lines) (y : Y) : Type 0 where
  pub contents : Lines
  pub rest : Lines
  pub whole : lines ≡ header ∷ (contents ++ rest)
  pub are_contents : list_all is_content contents ≡ true
  pub spelled : L contents rest y

-- The lines begin with the header.
pub record IsUnder (header : List ℕ) (lines : Lines) : Type 0 where
  pub rest : Lines
  pub whole : lines ≡ header ∷ rest
  pub part : part_in header lines ≡ Ok (take (contents_len rest) rest, drop (contents_len rest) rest)

-- They do not.
pub record IsNotUnder (header : List ℕ) (lines : Lines) : Type 0 where
  pub other : first lines ≡ Some header → ⊥
  pub part : part_in header lines ≡ Err lines

other_line : (line header : List ℕ) → bytes_eq line header ≡ false → Some line ≡ Some header → ⊥
other_line line header e f =
    let same : line ≡ header = cc in
    let equal : bytes_eq line header ≡ true = (bytes_eq-Decides line header).1 same in
    cc

tested : (header line : List ℕ) (lines : Lines) (b : Bool) → bytes_eq line header ≡ b → IsUnder header (line ∷ lines) ⊎ IsNotUnder header (line ∷ lines)
tested header line lines true e =
    inl (record { rest = lines; whole = ap (λ x. x ∷ lines) ((bytes_eq-Decides line header).0 e); part = rw e refl })
tested header line lines false e = inr (record { other = other_line line header e; part = rw e refl })

pub under : (header : List ℕ) (lines : Lines) → IsUnder header lines ⊎ IsNotUnder header lines
under header [] = inr (record { other = λ e. absurd cc; part = refl })
under header (line ∷ lines) = tested header line lines (bytes_eq line header) refl

cons_tail : {A : Type 0} (x y : A) (xs ys : List A) → (x ∷ xs) ≡ (y ∷ ys) → xs ≡ ys
cons_tail x y xs ys e = cc

first_of : (header : List ℕ) (rest lines : Lines) → lines ≡ header ∷ rest → first lines ≡ Some header
first_of header rest lines e = ap first e

-- A part, where what its contents allow is read.
module _ {Y : Type 0} (header : List ℕ) (L : Lines → Lines → Y → Type 0) (k : Lines → Lines → Result Y Lines)
    (marked : is_content header ≡ false) (inner : (contents : Lines) → Reads (L contents) (k contents)) where
  abbrev pub read_part : Lines → Result Y Lines
  read_part lines = part_in header lines >>= λ a. k a.0 a.1

  -- what is read under the header, and what is not
  pub read_under : (lines : Lines) (u : IsUnder header lines) → read_part lines ≡ k (take (contents_len u.rest) u.rest) (drop (contents_len u.rest) u.rest)
  read_under lines u = ap (λ r. r >>= λ a. k a.0 a.1) u.part

  pub read_not_under : (lines : Lines) → IsNotUnder header lines → read_part lines ≡ Err lines
  read_not_under lines u = ap (λ r. r >>= λ a. k a.0 a.1) u.part

  not_ok : (lines : Lines) (y : Y) → IsNotUnder header lines → read_part lines ≡ Ok y → ⊥
  not_ok lines y u e = let stopped = read_not_under lines u in cc

  found_part : (lines : Lines) (y : Y) → read_part lines ≡ Ok y → IsPart header L lines y
  found_part lines y e = elim (under header lines) [
    | inl u ↦ record {
      contents = take (contents_len u.rest) u.rest;
      rest = drop (contents_len u.rest) u.rest;
      whole = u.whole ∙ ap (λ ls. header ∷ ls) (sym (take-append-drop (contents_len u.rest) u.rest));
      are_contents = contents-front u.rest;
      spelled = (inner (take (contents_len u.rest) u.rest)).found (drop (contents_len u.rest) u.rest) y (sym (read_under lines u) ∙ e);
    }
    | inr u ↦ absurd (not_ok lines y u e)
  ]

  -- the contents and the rest are those that are read
  same_part : (lines rest more after : Lines) → lines ≡ header ∷ rest → lines ≡ header ∷ (more ++ after)
      → list_all is_content more ≡ true → IsEnded after
      → (take (contents_len rest) rest ≡ more) × (drop (contents_len rest) rest ≡ after)
  same_part lines rest more after e f contents ended =
      let tails : rest ≡ more ++ after = cc in
      same_cut (take (contents_len rest) rest) more (drop (contents_len rest) rest) after (contents-front rest) contents (contents-back rest) ended
      (take-append-drop (contents_len rest) rest ∙ tails)

  only_part : (lines : Lines) (y : Y) → IsPart header L lines y → read_part lines ≡ Ok y
  only_part lines y p = elim (under header lines) [
    | inl u ↦
        let same = same_part lines u.rest p.contents p.rest u.whole p.whole p.are_contents ((inner p.contents).ended p.rest y p.spelled) in
        read_under lines u ∙ ap (λ c. k c (drop (contents_len u.rest) u.rest)) same.0 ∙ ap (λ r. k p.contents r) same.1
        ∙ (inner p.contents).only p.rest y p.spelled
    | inr u ↦ absurd (u.other (first_of header (p.contents ++ p.rest) lines p.whole))
  ]

  begun_part : GoesOn (IsPart header L) []
  begun_part = let after = (inner []).begun in record {
    more = header ∷ after.more;
    value = after.value;
    spelled = record { contents = []; rest = after.more; whole = refl; are_contents = refl; spelled = after.spelled };
  }

  later_stuck : (rest contents tail : Lines) → list_all is_content contents ≡ true → IsEnded tail → (fault : FaultAt (L contents) tail rest)
      → (more : Lines) (y : Y) → Follows rest more → IsPart header L ((header ∷ (contents ++ fault.before)) ++ more) y → ⊥
  later_stuck rest contents tail are ended fault more y f p =
      let tails : (contents ++ fault.before) ++ more ≡ p.contents ++ p.rest = cons_tail header header _ _ p.whole in
      let goes : IsEnded (fault.before ++ more) = λ line e. ended line (ap first fault.whole ∙ sym (first_same fault.before rest more f) ∙ e) in
      let same = same_cut contents p.contents (fault.before ++ more) p.rest are p.are_contents goes ((inner p.contents).ended p.rest y p.spelled)
      (sym (append_assoc contents fault.before more) ∙ tails) in
      fault.stuck more y f (subst (λ c. L c (fault.before ++ more) y) (sym same.0) (subst (λ r. L p.contents r y) (sym same.1) p.spelled))

  -- a fault after the contents is the fault of the lines with the header
  later_fault : (lines rest contents tail : Lines) → lines ≡ header ∷ (contents ++ tail) → list_all is_content contents ≡ true
      → IsEnded tail → FaultAt (L contents) tail rest → FaultAt (IsPart header L) lines rest
  later_fault lines rest contents tail whole are ended fault = record {
    before = header ∷ (contents ++ fault.before);
    whole = whole ∙ ap (λ t. header ∷ (contents ++ t)) fault.whole ∙ ap (λ t. header ∷ t) (sym (append_assoc contents fault.before rest));
    begun = record {
      more = fault.begun.more;
      value = fault.begun.value;
      spelled = record {
        contents = contents;
        rest = fault.before ++ fault.begun.more;
        whole = ap (λ t. header ∷ t) (append_assoc contents fault.before fault.begun.more);
        are_contents = are;
        spelled = fault.begun.spelled;
      };
    };
    stuck = λ more y f p. later_stuck rest contents tail are ended fault more y f p;
  }

  not_under_fault : (lines rest : Lines) → IsNotUnder header lines → read_part lines ≡ Err rest → FaultAt (IsPart header L) lines rest
  not_under_fault lines rest u e =
      let same : lines ≡ rest = let stopped = read_not_under lines u in cc in
      record {
        before = [];
        whole = same;
        begun = begun_part;
        stuck = λ more y f p. u.other (ap first same ∙ sym (first_same [] rest more f) ∙ first_of header (p.contents ++ p.rest) more p.whole);
      }

  fault_part : (lines rest : Lines) → read_part lines ≡ Err rest → FaultAt (IsPart header L) lines rest
  fault_part lines rest e = elim (under header lines) [
    | inl u ↦ later_fault lines rest (take (contents_len u.rest) u.rest) (drop (contents_len u.rest) u.rest)
        (u.whole ∙ ap (λ ls. header ∷ ls) (sym (take-append-drop (contents_len u.rest) u.rest))) (contents-front u.rest) (contents-back u.rest)
        ((inner (take (contents_len u.rest) u.rest)).fault (drop (contents_len u.rest) u.rest) rest (sym (read_under lines u) ∙ e))
    | inr u ↦ not_under_fault lines rest u e
  ]

  ended_part : (lines : Lines) (y : Y) → IsPart header L lines y → IsEnded lines
  ended_part lines y p = λ line e.
      let same : header ≡ line = let head = first_of header (p.contents ++ p.rest) lines p.whole in cc in
      ap is_content (sym same) ∙ marked

  pub part_reads : Reads (IsPart header L) read_part
  part_reads = record { found = found_part; only = only_part; fault = fault_part; ended = ended_part; begun = begun_part }

-- A part under a header, or where it is not needed none, and then what its contents allow.
abbrev pub IsOptional : {Y : Type 0} → Bool → List ℕ → (Option Lines → Lines → Y → Type 0) → Lines → Y → Type 0
IsOptional needed header L lines y = IsPart header (λ c. L (Some c)) lines y ⊎ ((needed ≡ false) × L None lines y)

-- What comes in place of the part does not begin with its header.
module _ {Y : Type 0} (header : List ℕ) (L : Option Lines → Lines → Y → Type 0) (k : Option Lines → Lines → Result Y Lines)
    (marked : is_content header ≡ false) (inner : (contents : Option Lines) → Reads (L contents) (k contents))
    (avoids : (lines : Lines) (y : Y) → L None lines y → first lines ≡ Some header → ⊥) where
  abbrev pub read_optional : Bool → Lines → Result Y Lines
  read_optional needed lines = optional_part_in needed header lines >>= λ a. k a.0 a.1

  given : Reads (IsPart header (λ c. L (Some c))) (read_part header (λ c. L (Some c)) (λ c. k (Some c)) marked (λ c. inner (Some c)))
  given = part_reads header (λ c. L (Some c)) (λ c. k (Some c)) marked (λ c. inner (Some c))

  optional_under : (needed : Bool) (lines : Lines) → IsUnder header lines
      → read_optional needed lines ≡ read_part header (λ c. L (Some c)) (λ c. k (Some c)) marked (λ c. inner (Some c)) lines
  optional_under needed lines u =
      ap (λ r. part_unless needed lines r >>= λ a. k a.0 a.1) u.part ∙ sym (ap (λ r. r >>= λ a. k (Some a.0) a.1) u.part)

  optional_not_under : (needed : Bool) (lines : Lines) → IsNotUnder header lines
      → read_optional needed lines ≡ (part_unless needed lines (Err lines) >>= λ a. k a.0 a.1)
  optional_not_under needed lines u = ap (λ r. part_unless needed lines r >>= λ a. k a.0 a.1) u.part

  missing : (lines : Lines) (y : Y) → IsNotUnder header lines → IsPart header (λ c. L (Some c)) lines y → ⊥
  missing lines y u p = u.other (first_of header (p.contents ++ p.rest) lines p.whole)

  found_without : (needed : Bool) (lines : Lines) (y : Y) → IsNotUnder header lines → read_optional needed lines ≡ Ok y → IsOptional needed header L lines y
  found_without true lines y u e = absurd (let stopped = optional_not_under true lines u in cc)
  found_without false lines y u e = inr (refl, (inner None).found lines y (sym (optional_not_under false lines u) ∙ e))

  found_optional : (needed : Bool) (lines : Lines) (y : Y) → read_optional needed lines ≡ Ok y → IsOptional needed header L lines y
  found_optional needed lines y e = elim (under header lines) [
    | inl u ↦ inl (given.found lines y (sym (optional_under needed lines u) ∙ e))
    | inr u ↦ found_without needed lines y u e
  ]

  only_given : (needed : Bool) (lines : Lines) (y : Y) → IsPart header (λ c. L (Some c)) lines y → read_optional needed lines ≡ Ok y
  only_given needed lines y p = elim (under header lines) [
    | inl u ↦ optional_under needed lines u ∙ given.only lines y p
    | inr u ↦ absurd (missing lines y u p)
  ]

  only_without : (needed : Bool) (lines : Lines) (y : Y) → needed ≡ false → L None lines y → read_optional needed lines ≡ Ok y
  only_without true lines y n l = absurd cc
  only_without false lines y n l = elim (under header lines) [
    | inl u ↦ absurd (avoids lines y l (first_of header u.rest lines u.whole))
    | inr u ↦ optional_not_under false lines u ∙ (inner None).only lines y l
  ]

  only_optional : (needed : Bool) (lines : Lines) (y : Y) → IsOptional needed header L lines y → read_optional needed lines ≡ Ok y
  only_optional needed lines y (inl p) = only_given needed lines y p
  only_optional needed lines y (inr p) = only_without needed lines y p.0 p.1

  begun_optional : (needed : Bool) → GoesOn (IsOptional needed header L) []
  begun_optional needed = let after = given.begun in record { more = after.more; value = after.value; spelled = inl after.spelled }

  stuck_given : (needed : Bool) (lines rest : Lines) → IsUnder header lines → (fault : FaultAt (IsPart header (λ c. L (Some c))) lines rest)
      → (more : Lines) (y : Y) → Follows rest more → IsOptional needed header L (fault.before ++ more) y → ⊥
  stuck_given needed lines rest u fault more y f (inl p) = fault.stuck more y f p
  stuck_given needed lines rest u fault more y f (inr p) =
      avoids (fault.before ++ more) y p.1 (first_same fault.before rest more f ∙ ap first (sym fault.whole) ∙ first_of header u.rest lines u.whole)

  fault_given : (needed : Bool) (lines rest : Lines) → IsUnder header lines → FaultAt (IsPart header (λ c. L (Some c))) lines rest
      → FaultAt (IsOptional needed header L) lines rest
  fault_given needed lines rest u fault = record {
    before = fault.before;
    whole = fault.whole;
    begun = record { more = fault.begun.more; value = fault.begun.value; spelled = inl fault.begun.spelled };
    stuck = stuck_given needed lines rest u fault;
  }

  stuck_needed : (lines more : Lines) (y : Y) → IsNotUnder header lines → Follows lines more → IsOptional true header L more y → ⊥
  stuck_needed lines more y u f (inl p) = u.other (sym (first_same [] lines more f) ∙ first_of header (p.contents ++ p.rest) more p.whole)
  stuck_needed lines more y u f (inr p) = absurd (let wrong = p.0 in cc)

  stuck_without : (lines rest : Lines) → IsNotUnder header lines → (fault : FaultAt (L None) lines rest)
      → (more : Lines) (y : Y) → Follows rest more → IsOptional false header L (fault.before ++ more) y → ⊥
  stuck_without lines rest u fault more y f (inl p) =
      u.other (ap first fault.whole ∙ sym (first_same fault.before rest more f) ∙ first_of header (p.contents ++ p.rest) (fault.before ++ more) p.whole)
  stuck_without lines rest u fault more y f (inr p) = fault.stuck more y f p.1

  fault_without : (needed : Bool) (lines rest : Lines) → IsNotUnder header lines → read_optional needed lines ≡ Err rest
      → FaultAt (IsOptional needed header L) lines rest
  fault_without true lines rest u e =
      let same : lines ≡ rest = let stopped = optional_not_under true lines u in cc in
      subst (λ r. FaultAt (IsOptional true header L) lines r) same
      (record { before = []; whole = refl; begun = begun_optional true; stuck = λ more y f p. stuck_needed lines more y u f p })
  fault_without false lines rest u e =
      let fault = (inner None).fault lines rest (sym (optional_not_under false lines u) ∙ e) in
      record {
        before = fault.before;
        whole = fault.whole;
        begun = record { more = fault.begun.more; value = fault.begun.value; spelled = inr (refl, fault.begun.spelled) };
        stuck = stuck_without lines rest u fault;
      }

  fault_optional : (needed : Bool) (lines rest : Lines) → read_optional needed lines ≡ Err rest → FaultAt (IsOptional needed header L) lines rest
  fault_optional needed lines rest e = elim (under header lines) [
    | inl u ↦ fault_given needed lines rest u (given.fault lines rest (sym (optional_under needed lines u) ∙ e))
    | inr u ↦ fault_without needed lines rest u e
  ]

  ended_optional : (needed : Bool) (lines : Lines) (y : Y) → IsOptional needed header L lines y → IsEnded lines
  ended_optional needed lines y (inl p) = given.ended lines y p
  ended_optional needed lines y (inr p) = (inner None).ended lines y p.1

  pub optional_reads : (needed : Bool) → Reads (IsOptional needed header L) (read_optional needed)
  optional_reads needed = record {
    found = found_optional needed;
    only = only_optional needed;
    fault = fault_optional needed;
    ended = ended_optional needed;
    begun = begun_optional needed;
  }
