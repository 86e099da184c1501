-- The four parts together: what is read of an input is the input, and where nothing is read stands its first fault.
use Rattle.std.proofs.Common.{◌≡◌, ℕ, ◌+◌, ◌-◌, ◌≤◌, inl, inr, Bool, true, false, ◌&&◌, List, [], ◌∷◌, ◌++◌, length, Option, None, Some, Ok, Err, refl, sym, ap, subst, ◌∙◌, append_assoc, append-nil, length-append, arith}
use Rattle.std.specs.Prelude.{codes, IsSome, unwrap_or}
use Rattle.std.specs.List.{list_all}
use Rattle.std.specs.Str.{is_utf8}
use Rattle.std.proofs.lemmas.List.{length-map}
use Rattle.std.specs.Borrow.{Bor}
use Rattle.metric_base.specs.Steps.{◌>>=◌}
use Rattle.metric_base.specs.Fronts.{IsStuck}
use Rattle.metric_parts.specs.declared.needs.Needs.{Needs}
use Rattle.metric_parts.specs.Input.{Contents, is_content, optional_part, printed, IsInput, IsSomeInput, IsFirstFault}
use Rattle.metric_parts.specs.Reading.{part_in, optional_part_in, ending_in, contents_in, texts}
use Rattle.metric_parts.proofs.Languages.{Lines, first, IsEnded, Follows, FaultAt, Reads, first_same}
use Rattle.metric_parts.proofs.PartReading.{IsPart, IsOptional, part_reads, optional_reads}

-- no line is left
abbrev IsEnd : Contents → Lines → Contents → Type 0
IsEnd parts lines y = (lines ≡ []) × (parts ≡ y)

stuck_end : (parts : Contents) (lines more : Lines) (line : List ℕ) (y : Contents) → first lines ≡ Some line → Follows lines more → IsEnd parts more y → ⊥
stuck_end parts lines more line y e f end =
    let here : first more ≡ Some line = first_same [] lines more f ∙ e in
    let none : first more ≡ None = ap first end.0 in
    cc

found_end : (parts : Contents) (lines : Lines) (y : Contents) → ending_in parts lines ≡ Ok y → IsEnd parts lines y
found_end parts [] y e = let same : parts ≡ y = cc in (refl, same)
found_end parts (line ∷ lines) y e = absurd cc

only_end : (parts : Contents) (lines : Lines) (y : Contents) → IsEnd parts lines y → ending_in parts lines ≡ Ok y
only_end parts lines y end = ap (ending_in parts) end.0 ∙ ap (λ x. Ok x) end.1

fault_end : (parts : Contents) (lines rest : Lines) → ending_in parts lines ≡ Err rest → FaultAt (IsEnd parts) lines rest
fault_end parts [] rest e = absurd cc
fault_end parts (line ∷ lines) rest e =
    let same : (line ∷ lines) ≡ rest = cc in
    subst (λ r. FaultAt (IsEnd parts) (line ∷ lines) r) same (record {
      before = [];
      whole = refl;
      begun = record { more = []; value = parts; spelled = (refl, refl) };
      stuck = λ more y f p. stuck_end parts (line ∷ lines) more line y refl f p;
    })

ended_end : (parts : Contents) (lines : Lines) (y : Contents) → IsEnd parts lines y → IsEnded lines
ended_end parts lines y end = λ line e. absurd (let none : first lines ≡ None = ap first end.0 in cc)

end_reads : (parts : Contents) → Reads (IsEnd parts) (ending_in parts)
end_reads parts = record {
  found = found_end parts;
  only = only_end parts;
  fault = fault_end parts;
  ended = ended_end parts;
  begun = record { more = []; value = parts; spelled = (refl, refl) };
}

-- the four parts, as languages within one another
abbrev four : Lines → Lines → Option Lines → Option Lines → Contents
four a b c d = record { catalogue = a; config = b; certificate = c; script = d }

abbrev IsScriptOn : Needs → Lines → Lines → Option Lines → Lines → Contents → Type 0
IsScriptOn needs a b c = IsOptional needs.script (codes "%% script") (λ d. IsEnd (four a b c d))

abbrev IsCertificateOn : Needs → Lines → Lines → Lines → Contents → Type 0
IsCertificateOn needs a b = IsOptional needs.certificate (codes "%% certificate") (λ c. IsScriptOn needs a b c)

abbrev IsSpelled : Needs → Lines → Contents → Type 0
IsSpelled needs = IsPart (codes "%% catalogue") (λ a. IsPart (codes "%% config") (λ b. IsCertificateOn needs a b))

and_false : (b : Bool) → (b && false) ≡ false
and_false true = refl
and_false false = refl

no_script : (parts : Contents) (lines : Lines) (y : Contents) → IsEnd parts lines y → first lines ≡ Some (codes "%% script") → ⊥
no_script parts lines y end e = let none : first lines ≡ None = ap first end.0 in cc

script_reads : (needs : Needs) (a b : Lines) (c : Option Lines)
    → Reads (IsScriptOn needs a b c) (λ lines. optional_part_in needs.script (codes "%% script") lines >>= λ d. ending_in (four a b c d.0) d.1)
script_reads needs a b c =
    optional_reads (codes "%% script") (λ d. IsEnd (four a b c d)) (λ d. ending_in (four a b c d)) (and_false (is_utf8 (codes "%% script")))
    (λ d. end_reads (four a b c d)) (λ lines y end e. no_script (four a b c None) lines y end e) needs.script

no_certificate : (needs : Needs) (a b : Lines) (lines : Lines) (y : Contents) → IsScriptOn needs a b None lines y → first lines ≡ Some (codes "%% certificate") → ⊥
no_certificate needs a b lines y (inl p) e =
    let head : first lines ≡ Some (codes "%% script") = ap first p.whole in
    let wrong : codes "%% script" ≡ codes "%% certificate" = cc in
    cc
no_certificate needs a b lines y (inr p) e = let none : first lines ≡ None = ap first p.1.0 in cc

certificate_reads : (needs : Needs) (a b : Lines)
    → Reads (IsCertificateOn needs a b) (λ lines. optional_part_in needs.certificate (codes "%% certificate") lines >>= λ c.
    (optional_part_in needs.script (codes "%% script") c.1 >>= λ d. ending_in (four a b c.0 d.0) d.1))
certificate_reads needs a b =
    optional_reads (codes "%% certificate") (λ c. IsScriptOn needs a b c)
    (λ c lines. optional_part_in needs.script (codes "%% script") lines >>= λ d. ending_in (four a b c d.0) d.1)
    (and_false (is_utf8 (codes "%% certificate"))) (λ c. script_reads needs a b c) (no_certificate needs a b) needs.certificate

input_reads : (needs : Needs) → Reads (IsSpelled needs) (contents_in needs)
unfolding contents_in
input_reads needs =
    part_reads (codes "%% catalogue") (λ a. IsPart (codes "%% config") (λ b. IsCertificateOn needs a b))
    (λ a lines. part_in (codes "%% config") lines >>= λ b.
    (optional_part_in needs.certificate (codes "%% certificate") b.1 >>= λ c.
    (optional_part_in needs.script (codes "%% script") c.1 >>= λ d. ending_in (four a b.0 c.0 d.0) d.1)))
    (and_false (is_utf8 (codes "%% catalogue")))
    (λ a. part_reads (codes "%% config") (λ b. IsCertificateOn needs a b)
    (λ b lines. optional_part_in needs.certificate (codes "%% certificate") lines >>= λ c.
    (optional_part_in needs.script (codes "%% script") c.1 >>= λ d. ending_in (four a b c.0 d.0) d.1))
    (and_false (is_utf8 (codes "%% config"))) (λ b. certificate_reads needs a b))

-- A part that may be missing, as the lines that it prints.
record Printed {Y : Type 0} (needed : Bool) (header : List ℕ) (L : Option Lines → Lines → Y → Type 0) (lines : Lines) (y : Y) : Type 0 where
  contents : Option Lines
  rest : Lines
  whole : lines ≡ optional_part header contents ++ rest
  are_contents : list_all is_content (unwrap_or contents []) ≡ true
  has : needed ≡ true → IsSome contents
  spelled : L contents rest y

to_printed : {Y : Type 0} (needed : Bool) (header : List ℕ) (L : Option Lines → Lines → Y → Type 0) (lines : Lines) (y : Y)
    → IsOptional needed header L lines y → Printed needed header L lines y
to_printed needed header L lines y (inl p) = record {
  contents = Some p.contents;
  rest = p.rest;
  whole = p.whole;
  are_contents = p.are_contents;
  has = λ _. refl;
  spelled = p.spelled;
}
to_printed needed header L lines y (inr p) = record {
  contents = None;
  rest = lines;
  whole = refl;
  are_contents = refl;
  has = λ n. absurd (let not_needed = p.0 in cc);
  spelled = p.1;
}

not_needed : (needed : Bool) → (needed ≡ true → ⊥) → needed ≡ false
not_needed true n = absurd (n refl)
not_needed false n = refl

from_printed : {Y : Type 0} (needed : Bool) (header : List ℕ) (L : Option Lines → Lines → Y → Type 0) (lines : Lines) (y : Y)
    → (contents : Option Lines) (rest : Lines) → lines ≡ optional_part header contents ++ rest → list_all is_content (unwrap_or contents []) ≡ true
    → (needed ≡ true → IsSome contents) → L contents rest y → IsOptional needed header L lines y
from_printed needed header L lines y (Some c) rest whole are has spelled =
    inl (record { contents = c; rest = rest; whole = whole; are_contents = are; spelled = spelled })
from_printed needed header L lines y None rest whole are has spelled =
    inr (not_needed needed (λ n. absurd (let there = has n in cc)), subst (λ ls. L None ls y) (sym whole) spelled)

-- the parts one after the other are the input that they print
printed_whole : (lines t2 t3 t4 t5 : Lines) (parts : Contents) → lines ≡ codes "%% catalogue" ∷ (parts.catalogue ++ t2)
    → t2 ≡ codes "%% config" ∷ (parts.config ++ t3) → t3 ≡ optional_part (codes "%% certificate") parts.certificate ++ t4
    → t4 ≡ optional_part (codes "%% script") parts.script ++ t5 → t5 ≡ [] → lines ≡ printed parts
printed_whole lines t2 t3 t4 t5 parts e1 e2 e3 e4 e5 = rw (e1, e2, e3, e4, e5) (simp (append_assoc, append-nil))

to_input : (needs : Needs) (lines : Lines) (parts : Contents) → IsSpelled needs lines parts → IsInput needs lines parts
to_input needs lines parts p =
    let q = p.spelled in
    let r = to_printed needs.certificate (codes "%% certificate") (λ c. IsScriptOn needs p.contents q.contents c) q.rest parts q.spelled in
    let s = to_printed needs.script (codes "%% script") (λ d. IsEnd (four p.contents q.contents r.contents d)) r.rest parts r.spelled in
    let all = four p.contents q.contents r.contents s.contents in
    subst (λ x. IsInput needs lines x) s.spelled.1 (record {
      whole = printed_whole lines p.rest q.rest r.rest s.rest all p.whole q.whole r.whole s.whole s.spelled.0;
      catalogue = p.are_contents;
      config = q.are_contents;
      certificate = r.are_contents;
      script = s.are_contents;
      has_certificate = r.has;
      has_script = s.has;
    })

from_input : (needs : Needs) (lines : Lines) (parts : Contents) → IsInput needs lines parts → IsSpelled needs lines parts
from_input needs lines parts input =
    let script = optional_part (codes "%% script") parts.script in
    let certificate = optional_part (codes "%% certificate") parts.certificate in
    let on_script = from_printed needs.script (codes "%% script") (λ d. IsEnd (four parts.catalogue parts.config parts.certificate d)) script parts
    parts.script [] (sym (append-nil script)) input.script input.has_script (refl, refl) in
    let on_certificate = from_printed needs.certificate (codes "%% certificate") (λ c. IsScriptOn needs parts.catalogue parts.config c)
    (certificate ++ script) parts parts.certificate script refl input.certificate input.has_certificate on_script in
    record {
      contents = parts.catalogue;
      rest = codes "%% config" ∷ (parts.config ++ (certificate ++ script));
      whole = input.whole ∙ simp append_assoc;
      are_contents = input.catalogue;
      spelled = record { contents = parts.config; rest = certificate ++ script; whole = refl; are_contents = input.config; spelled = on_certificate };
    }

-- What is read is an input.
pub contents_found : (needs : Needs) (lines : Lines) (parts : Contents) → contents_in needs lines ≡ Ok parts → IsInput needs lines parts
contents_found needs lines parts e = to_input needs lines parts ((input_reads needs).found lines parts e)

-- An input is read.
pub contents_only : (needs : Needs) (lines : Lines) (parts : Contents) → IsInput needs lines parts → contents_in needs lines ≡ Ok parts
contents_only needs lines parts input = (input_reads needs).only lines parts (from_input needs lines parts input)

stuck_here : (needs : Needs) (lines rest : Lines) → (fault : FaultAt (IsSpelled needs) lines rest) → IsStuck (IsSomeInput needs) fault.before rest
stuck_here needs lines [] fault = λ whole.
    fault.stuck [] whole.parts refl (subst (λ ls. IsSpelled needs ls whole.parts) (sym (append-nil fault.before)) (from_input needs fault.before whole.parts whole.is_input))
stuck_here needs lines (line ∷ rest) fault = λ begins.
    fault.stuck (line ∷ begins.more) begins.is_whole.parts refl
    (subst (λ ls. IsSpelled needs ls begins.is_whole.parts) (append_assoc fault.before (line ∷ []) begins.more)
    (from_input needs ((fault.before ++ line ∷ []) ++ begins.more) begins.is_whole.parts begins.is_whole.is_input))

fault_place : (before rest lines : Lines) → lines ≡ before ++ rest → length lines - length rest ≡ length before
fault_place before rest lines whole = omega (arith, ap length whole ∙ length-append before rest)

-- Where nothing is read stands the first fault.
pub contents_fault : (needs : Needs) (lines rest : Lines) → contents_in needs lines ≡ Err rest
    → IsFirstFault needs lines (length lines - length rest + 1)
contents_fault needs lines rest e =
    let fault = (input_reads needs).fault lines rest e in
    record {
      place = length lines - length rest;
      numbered = refl;
      breaks_off = record {
        before = fault.before;
        rest = rest;
        whole = fault.whole;
        at = fault_place fault.before rest lines fault.whole;
        begun = record {
          more = fault.begun.more;
          is_whole = record {
            parts = fault.begun.value;
            is_input = to_input needs (fault.before ++ fault.begun.more) fault.begun.value fault.begun.spelled;
          };
        };
        stuck = stuck_here needs lines rest fault;
      };
    }

-- The same of lists of references.
pub texts_fault : (needs : Needs) (lines rest : List (Bor (List ℕ))) → Err (texts rest) ≡ contents_in needs (texts lines)
    → IsFirstFault needs (texts lines) (length lines - length rest + 1)
texts_fault needs lines rest e =
    let fault = contents_fault needs (texts lines) (texts rest) (sym e) in
    rw (length-map lines (λ line. line.now), length-map rest (λ line. line.now)) at fault

pub texts_fits : (needs : Needs) (lines rest : List (Bor (List ℕ))) → Err (texts rest) ≡ contents_in needs (texts lines) → length rest ≤ length lines
texts_fits needs lines rest e =
    let fault = (input_reads needs).fault (texts lines) (texts rest) (sym e) in
    omega (arith, ap length fault.whole ∙ length-append fault.before (texts rest), length-map lines (λ line. line.now), length-map rest (λ line. line.now))
