-- A table whose fields were put one after the other is read as what they were put for.
use Rattle.std.proofs.Common.{◌≡◌, ℕ, ◌+◌, ◌^◌, true, ◌&&◌, codes, List, Option, Some, None, Result, Ok, Err, Ordering, Less, Equal, Greater, refl, ap, subst, ◌∙◌, arith, ◌≤◌, lit≤}
use Rattle.std.specs.Prelude.{OnOk}
use Rattle.std.proofs.lemmas.Bool.{and_parts}
use Rattle.std.proofs.lemmas.Cmp.{nat_list_cmp_total}
use Rattle.std.specs.Ordering.{match_ordering, nat_cmp, ordering_reverse}
use Rattle.std.specs.Cmp.Lexicographic.{slice_cmp}
use Rattle.metric_glob.specs.declared.reason.Reason.TheVariants.{Takes, Rows}
use Rattle.toml.specs.Data.{Data, Members, no_members, member, string, table, depth, members_depth, is_before, is_sorted, members_are_sorted}
use Rattle.metric_table.specs.Fields.{field, only, text_of}
use Rattle.metric_cert.specs.declared.bound.InstrumentBound.{InstrumentBound}
use Rattle.metric_cert.specs.declared.fault.CertFault.{CertFault}
use Rattle.metric_cert.specs.declared.order.ReaderOrder.{ReaderOrder}
use Rattle.metric_cert.specs.declared.reason.Criterion.{Criterion}
use Rattle.metric_cert.specs.declared.reason.Criterion.TheVariants.{InstrumentType, InstrumentUnit, MeterName, MeterVersion, MeterSchemaUrl}
use Rattle.metric_cert.specs.declared.reason.Evidence.{Evidence}
use Rattle.metric_cert.specs.declared.reason.Evidence.TheVariants.{Name, Miss}
use Rattle.metric_cert.specs.declared.stream.BoundWord.{BoundWord}
use Rattle.metric_cert.specs.declared.stream.BoundWord.TheVariants as words
use Rattle.metric_cert.specs.declared.stream.By.{By}
use Rattle.metric_cert.specs.declared.stream.By.TheVariants as by
use Rattle.metric_cert.specs.Bounds.{bound_of}
use Rattle.metric_cert.specs.Names.{criterion_name, criterion_of, word_for, word_name, word_of}
use Rattle.metric_cert.specs.Orders.{order_of}
use Rattle.metric_cert.specs.Reading.{decimal_of, list_of, needed, optional, signed_decimal_of, whole_of}
use Rattle.metric_cert.specs.Reasons.{PutsEvidence, evidence_of, reason_of}
use Rattle.metric_cert.specs.Streams.{PutsList, by_of, stream_of}
use Rattle.metric_cert.specs.Writing.{IsPrintable, Puts, PutsGiven}
use Rattle.metric_table.specs.Members.{with_member}

criterion_read : (criterion : Criterion) → criterion_of (string (criterion_name criterion)) ≡ Ok criterion
unfolding criterion_of text_of
criterion_read InstrumentType = refl
criterion_read InstrumentUnit = refl
criterion_read MeterName = refl
criterion_read MeterVersion = refl
criterion_read MeterSchemaUrl = refl

pub criterion_written : (criterion : Criterion) (d : Data) → d ≡ string (criterion_name criterion) → criterion_of d ≡ Ok criterion
criterion_written criterion d is = rw is (criterion_read criterion)

word_read : (word : BoundWord) → word_of (string (word_name word)) ≡ Ok word
unfolding word_of text_of
word_read words.Product = refl
word_read words.List = refl
word_read words.Budget = refl

pub word_written : (word : BoundWord) (d : Data) → d ≡ string (word_name word) → word_of d ≡ Ok word
word_written word d is = rw is (word_read word)

pub order_written : (order : ReaderOrder) (none one two : Members) → none ≡ no_members → Puts (whole_of (2 ^ 32)) 0 (codes "reader") order.reader none one
    → Puts (list_of (whole_of (2 ^ 32))) 1 (codes "streams") order.streams one two → order_of two ≡ Ok order
unfolding order_of only needed field
order_written order none one two start p q = rw (q.put, p.put, start, p.reads, q.reads) refl

pub bound_written : (bound : InstrumentBound) (none one two three four five : Members) → none ≡ no_members
    → Puts (whole_of (2 ^ 32)) 0 (codes "instrument") bound.instrument none one → Puts decimal_of 0 (codes "total") bound.total one two
    → Puts decimal_of 0 (codes "amount") bound.amount two three → Puts signed_decimal_of 0 (codes "low") bound.low three four
    → Puts signed_decimal_of 0 (codes "high") bound.high four five → bound_of five ≡ Ok bound
unfolding bound_of only needed field
bound_written bound none one two three four five start p q r s t =
    rw (t.put, s.put, r.put, q.put, p.put, start, p.reads, q.reads, r.reads, s.reads, t.reads) refl

pub reason_written : (view instrument : ℕ) (evidence : Evidence) (none one two three : Members) → none ≡ no_members
    → Puts (whole_of (2 ^ 32)) 0 (codes "view") view none one → Puts (whole_of (2 ^ 32)) 0 (codes "instrument") instrument one two
    → PutsEvidence evidence two three → reason_of three ≡ Ok (record { view = view; instrument = instrument; evidence = evidence })
unfolding reason_of evidence_of only needed optional field
reason_written view instrument (Name (Takes takes)) none one two three start p q r =
    rw (r.put, q.put, p.put, start, p.reads, q.reads, r.reads) refl
reason_written view instrument (Name (Rows rows)) none one two three start p q r =
    rw (r.put, q.put, p.put, start, p.reads, q.reads, r.reads) refl
reason_written view instrument (Miss criterion) none one two three start p q r =
    rw (r.put, q.put, p.put, start, p.reads, q.reads, r.reads) refl

-- a word was put
pub word_put : (word own : BoundWord) (before after : Members) → word ≡ own → Puts word_of 0 (codes "by") word before after → Puts word_of 0 (codes "by") own before after
word_put word own before after is put = subst (λ (w : BoundWord). Puts word_of 0 (codes "by") w before after) is put

pub stream_written : (reader instrument : ℕ) (view : Option ℕ) (by : By) (sets : ℕ) (none one two three four five six : Members) → none ≡ no_members
    → Puts (whole_of (2 ^ 32)) 0 (codes "reader") reader none one → Puts (whole_of (2 ^ 32)) 0 (codes "instrument") instrument one two
    → PutsGiven (whole_of (2 ^ 32)) 0 (codes "view") view two three → Puts word_of 0 (codes "by") (word_for by) three four
    → PutsList by four five → Puts (whole_of (2 ^ 32)) 0 (codes "sets") sets five six
    → stream_of six ≡ Ok (record { reader = reader; instrument = instrument; view = view; by = by; sets = sets })
unfolding stream_of by_of only needed optional field
stream_written reader instrument None by.Product sets none one two three four five six start p q r s l t =
    rw (t.put, l, s.put, r, q.put, p.put, start, p.reads, q.reads, s.reads, t.reads) refl
stream_written reader instrument None by.Budget sets none one two three four five six start p q r s l t =
    rw (t.put, l, s.put, r, q.put, p.put, start, p.reads, q.reads, s.reads, t.reads) refl
stream_written reader instrument None (by.List list) sets none one two three four five six start p q r s l t =
    rw (t.put, l.put, s.put, r, q.put, p.put, start, p.reads, q.reads, s.reads, l.reads, t.reads) refl
stream_written reader instrument (Some view) by.Product sets none one two three four five six start p q r s l t =
    rw (t.put, l, s.put, r.put, q.put, p.put, start, p.reads, q.reads, r.reads, s.reads, t.reads) refl
stream_written reader instrument (Some view) by.Budget sets none one two three four five six start p q r s l t =
    rw (t.put, l, s.put, r.put, q.put, p.put, start, p.reads, q.reads, r.reads, s.reads, t.reads) refl
stream_written reader instrument (Some view) (by.List list) sets none one two three four five six start p q r s l t =
    rw (t.put, l.put, s.put, r.put, q.put, p.put, start, p.reads, q.reads, r.reads, s.reads, l.reads, t.reads) refl

-- A table stays printable as a field is put into it.
pub none_printable : (none : Members) (most : ℕ) → none ≡ no_members → IsPrintable (most + 1) (table none)
none_printable none most start = rw start (record { shallow = omega arith; sorted = refl })

put_depth : (name : List ℕ) (d : Data) (fields : Members) (most : ℕ) → depth d ≤ most → members_depth fields ≤ most → members_depth (with_member name d fields) ≤ most
put_depth name d no_members most new old = omega arith
put_depth name d (member other e fields) most new old =
    let rest : members_depth fields ≤ most = omega arith in
    by (slice_cmp nat_cmp name other) (put_depth name d fields most new rest)
  where
    by : (o : Ordering) → members_depth (with_member name d fields) ≤ most
        → members_depth (match_ordering o (member name d (member other e fields)) (member other d fields) (member other e (with_member name d fields))) ≤ most
    by Less more = omega arith
    by Equal more = omega arith
    by Greater more = omega arith

-- a name before all of a table is before one more that it is before
is_before-with : (first name : List ℕ) (d : Data) (fields : Members) → slice_cmp nat_cmp first name ≡ Less → is_before first fields ≡ true → is_before first (with_member name d fields) ≡ true
is_before-with first name d no_members less before = rw less refl
is_before-with first name d (member other e fields) less before = by (slice_cmp nat_cmp name other)
  where
    by : (o : Ordering) → is_before first (match_ordering o (member name d (member other e fields)) (member other d fields) (member other e (with_member name d fields))) ≡ true
    by Less = rw less refl
    by Equal = before
    by Greater = before

put_sorted : (name : List ℕ) (d : Data) (fields : Members) → is_sorted d ≡ true → members_are_sorted fields ≡ true → members_are_sorted (with_member name d fields) ≡ true
put_sorted name d no_members new old = rw new refl
put_sorted name d (member other e fields) new old =
    let (front, rest) = and_parts (is_before other fields && is_sorted e) (members_are_sorted fields) old in
    let (before, here) = and_parts (is_before other fields) (is_sorted e) front in
    by before here rest (slice_cmp nat_cmp name other) refl (put_sorted name d fields new rest)
  where
    by : is_before other fields ≡ true → is_sorted e ≡ true → members_are_sorted fields ≡ true → (o : Ordering) → slice_cmp nat_cmp name other ≡ o
        → members_are_sorted (with_member name d fields) ≡ true
        → members_are_sorted (match_ordering o (member name d (member other e fields)) (member other d fields) (member other e (with_member name d fields))) ≡ true
    by before here rest Less same more = rw (same, new, before, here, rest) refl
    by before here rest Equal same more = rw (before, new, rest) refl
    by before here rest Greater same more =
        let less : slice_cmp nat_cmp other name ≡ Less = nat_list_cmp_total.antisymm other name ∙ ap ordering_reverse same in
        rw (is_before-with other name d fields less before, here, more) refl

pub put_printable : {X : Type 0} {step : Data → Result X CertFault} {levels : ℕ} {name : List ℕ} {x : X} {before after : Members} (most : ℕ)
    → levels ≤ most → IsPrintable (most + 1) (table before) → Puts step levels name x before after → IsPrintable (most + 1) (table after)
put_printable {name = name} {before = before} most within old p =
    let deep : members_depth before ≤ most = omega (arith, old.shallow) in
    let new : depth p.datum ≤ most = omega (arith, p.printable.shallow) in
    rw p.put (record {
      shallow = omega (arith, put_depth name p.datum before most new deep);
      sorted = put_sorted name p.datum before p.printable.sorted old.sorted;
    })

pub given_printable : {X : Type 0} (step : Data → Result X CertFault) (levels : ℕ) (name : List ℕ) (x : Option X) (before after : Members) (most : ℕ)
    → levels ≤ most → IsPrintable (most + 1) (table before) → PutsGiven step levels name x before after → IsPrintable (most + 1) (table after)
given_printable step levels name None before after most within old p = rw p old
given_printable step levels name (Some x) before after most within old p = put_printable most within old p

pub evidence_printable : (evidence : Evidence) (before after : Members) → IsPrintable 3 (table before) → PutsEvidence evidence before after → IsPrintable 3 (table after)
evidence_printable (Name (Takes takes)) before after old p = put_printable 2 (lit≤ tt) old p
evidence_printable (Name (Rows rows)) before after old p = put_printable 2 (lit≤ tt) old p
evidence_printable (Miss criterion) before after old p = put_printable 2 (lit≤ tt) old p

pub list_printable : (by : By) (before after : Members) → IsPrintable 3 (table before) → PutsList by before after → IsPrintable 3 (table after)
list_printable by.Product before after old p = rw p old
list_printable (by.List list) before after old p = put_printable 2 (lit≤ tt) old p
list_printable by.Budget before after old p = rw p old

pub when_ok : {X E : Type 0} {P Q : Type 0} (r : Result X E) → OnOk r P → (P → Q) → OnOk r Q
when_ok (Ok x) p next = next p
when_ok (Err e) p next = p
