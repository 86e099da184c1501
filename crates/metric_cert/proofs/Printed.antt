-- The text that is made piece by piece is read as the certificate.
use Rattle.std.proofs.Common.{◌≡◌, ℕ, pos, ◌^◌, ◌≤◌, ◌==◌, ◌||◌, ◌&&◌, not, ◌⊎◌, inl, inr, Bool, true, false, cond, codes, List, [], ◌∷◌, ◌++◌, length, Some, Result, Ok, Err, is_ok, refl, sym, ap, subst, ◌∙◌, arith, append_assoc, append-nil, length-append}
use Rattle.std.specs.Prelude.{OnOk}
use Rattle.std.specs.List.{list_any}
use Rattle.std.proofs.lemmas.Bool.{and_parts, eqb-true}
use Rattle.std.proofs.lemmas.Bool.Decides.{nat_tests}
use Rattle.toml.specs.Data.{Data, Items, Members, integer, array, table, string, float, boolean, datetime, item, no_items, member, no_members, members_depth, has_valid_dates, items_have_valid_dates, members_have_valid_dates, members_are_sorted}
use Rattle.toml.specs.Parse.{parse_document}
use Rattle.toml.specs.Tables.{Expression, array_table, key_value}
use Rattle.toml.specs.Text.{IsDocumentText, IsLinesText, are_tables, elements, expressions, pairs, sections}
use Rattle.toml.specs.View.{items_view, view}
use Rattle.toml.specs.declared.value.Value.{Value}
use Rattle.toml.proofs.Lines.{IsLinesText-append, elements-last}
use Rattle.toml.proofs.ReadBack.{parse_document-printed}
use Rattle.metric_table.specs.Fields.{field, only, table_of}
use Rattle.metric_cert.specs.declared.claims.Claims.{Claims}
use Rattle.metric_cert.specs.declared.fault.CertFault.{CertFault}
use Rattle.metric_cert.specs.declared.fault.CertList.TheVariants as names
use Rattle.metric_cert.specs.Bounds.{bound_of}
use Rattle.metric_cert.specs.Certificates.{certificate_from, certificate_of, claims_of}
use Rattle.metric_cert.specs.Formats.{has_list, is_formatted}
use Rattle.metric_cert.specs.Orders.{order_of}
use Rattle.metric_cert.specs.Printing.{AppendsEntries, AppendsEntry, AppendsLines, AppendsLists, IsFieldText, pair_of, pair_where, pairs_of}
use Rattle.metric_cert.specs.Reading.{entries_as, needed, table_as}
use Rattle.metric_cert.specs.Reasons.{reason_of}
use Rattle.metric_cert.specs.Streams.{stream_of}
use Rattle.metric_cert.specs.Writing.{IsPrintable}
use Rattle.metric_cert.proofs.Written.{each_alone-push, entries_as-array, printable-last, whole_of-pos}

-- ---- lines after lines

-- a text that was written at the end
pub pushed : {X E Q : Type 0} (r : Result X E) (old new more : List ℕ) → new ≡ cond (is_ok r) (old ++ more) old → (new ≡ old ++ more → Q) → OnOk r Q
pushed (Ok x) old new more is next = next is
pushed (Err e) old new more is next = tt

pub lines_none : (text : List ℕ) → AppendsLines [] text text
lines_none text = record { text = []; appended = sym (append-nil text); spelled = refl }

pub lines_then : (es fs : List Expression) (a b c : List ℕ) → AppendsLines es a b → AppendsLines fs b c → AppendsLines (es ++ fs) a c
lines_then es fs a b c p q = record {
  text = p.text ++ q.text;
  appended = q.appended ∙ ap (λ t. t ++ q.text) p.appended ∙ append_assoc a p.text q.text;
  spelled = IsLinesText-append false true es fs p.text q.text p.spelled q.spelled;
}

-- ---- a table under its header

-- what is read as a table is one
table_read : {X : Type 0} (step : Members → Result X CertFault) (d : Data) (x : X) → table_as step d ≡ Ok x → (ms : Members) × (d ≡ table ms)
unfolding table_as table_of
table_read step (table ms) x reads = (ms, refl)
table_read step (string s) x reads = absurd cc
table_read step (integer z) x reads = absurd cc
table_read step (float f) x reads = absurd cc
table_read step (boolean b) x reads = absurd cc
table_read step (datetime dt) x reads = absurd cc
table_read step (array ds) x reads = absurd cc

-- a header that is not the first line has an empty line before it
after_others : (key : List (List ℕ) × List ℕ) (es : List Expression) (text : List ℕ) → IsLinesText false false ((key, array_table) ∷ es) text
    → IsLinesText false true ((key, array_table) ∷ es) (10 ∷ text)
after_others key es text lines =
    let (this, rest, is, line, more) = lines in
    (10 ∷ this, rest, ap (λ t. 10 ∷ t) is, ap (λ t. 10 ∷ t) line, more)

element_lines : (name : List ℕ) (ms : Members) (piece : List ℕ) → IsDocumentText false (member name (array (item (table ms) no_items)) no_members) piece
    → IsLinesText false true (elements ([], name) (item (table ms) no_items)) (10 ∷ piece)
element_lines name ms piece doc =
    after_others ([], name) _ piece (subst (λ es. IsLinesText false false es piece) (append-nil (elements ([], name) (item (table ms) no_items))) doc)

pub entry_appended : {X : Type 0} (step : Members → Result X CertFault) (levels : ℕ) (name : List ℕ) (x : X) (value : Value) (d : Data) (piece before middle after : List ℕ)
    → table_as step (view value) ≡ Ok x → IsPrintable levels (view value) → d ≡ array (items_view (value ∷ [])) → IsFieldText name d piece
    → middle ≡ before ++ 10 ∷ [] → after ≡ middle ++ piece → AppendsEntry (table_as step) levels name x before after
entry_appended step levels name x value d piece before middle after reads printable is given feed longer =
    let (ms, is_table) = table_read step (view value) x reads in
    let field : IsFieldText name (array (item (view value) no_items)) piece = subst (λ e. IsFieldText name e piece) is given in
    let doc = subst (λ e. IsDocumentText false (member name (array (item e no_items)) no_members) piece) is_table field.spelled in
    let lines : IsLinesText false true (elements ([], name) (item (view value) no_items)) (10 ∷ piece) =
    subst (λ e. IsLinesText false true (elements ([], name) (item e no_items)) (10 ∷ piece)) (sym is_table) (element_lines name ms piece doc) in
    record {
      value = value;
      reads = reads;
      printable = printable;
      dated = (and_parts (has_valid_dates (view value)) true field.dated).0;
      tabled = rw is_table refl;
      lines = record { text = 10 ∷ piece; appended = longer ∙ ap (λ t. t ++ piece) feed ∙ append_assoc before (10 ∷ []) piece; spelled = lines };
    }

-- ---- a list of tables

tables_next : (d : Data) (ds es : Items) → are_tables (item d ds) ≡ true → (are_tables ds ≡ true → are_tables es ≡ true) → are_tables (item d es) ≡ true
tables_next (table ms) ds es all next = next all
tables_next (string s) ds es all next = all
tables_next (integer z) ds es all next = all
tables_next (float f) ds es all next = all
tables_next (boolean b) ds es all next = all
tables_next (datetime dt) ds es all next = all
tables_next (array xs) ds es all next = all

are_tables-last : (values : List Value) (v : Value) → are_tables (items_view values) ≡ true → are_tables (item (view v) no_items) ≡ true → are_tables (items_view (values ++ v ∷ [])) ≡ true
are_tables-last [] v old new = new
are_tables-last (x ∷ values) v old new = tables_next (view x) _ _ old (λ rest. are_tables-last values v rest new)

dates-last : (values : List Value) (v : Value) → items_have_valid_dates (items_view values) ≡ true → has_valid_dates (view v) ≡ true → items_have_valid_dates (items_view (values ++ v ∷ [])) ≡ true
dates-last [] v old new = rw new refl
dates-last (x ∷ values) v old new =
    let (here, rest) = and_parts (has_valid_dates (view x)) (items_have_valid_dates (items_view values)) old in
    rw (here, dates-last values v rest new) refl

entries_last : {X : Type 0} (step : Data → Result X CertFault) (levels : ℕ) (name : List ℕ) (xs : List X) (x : X) (a b c : List ℕ)
    → AppendsEntries step levels name xs a b → AppendsEntry step levels name x b c → AppendsEntries step levels name (xs ++ x ∷ []) a c
entries_last step levels name xs x a b c old new = record {
  values = old.values ++ new.value ∷ [];
  count = omega (arith, length-append old.values (new.value ∷ []), length-append xs (x ∷ []), old.count);
  reads = each_alone-push step old.values _ new.value xs _ x refl refl old.reads new.reads;
  printable = printable-last old.values new.value levels old.printable new.printable;
  dated = dates-last old.values new.value old.dated new.dated;
  tabled = are_tables-last old.values new.value old.tabled new.tabled;
  lines = subst (λ es. AppendsLines es a c) (sym (elements-last ([], name) old.values new.value)) (lines_then _ _ a b c old.lines new.lines);
}

pub entries_more : {X : Type 0} (step : Data → Result X CertFault) (levels : ℕ) (name : List ℕ) (xs more : List X) (x : X) (a b c : List ℕ) → more ≡ xs ++ x ∷ []
    → AppendsEntries step levels name xs a b → AppendsEntry step levels name x b c → AppendsEntries step levels name more a c
entries_more step levels name xs more x a b c grown old new =
    subst (λ ys. AppendsEntries step levels name ys a c) (sym grown) (entries_last step levels name xs x a b c old new)

-- ---- the certificate

-- the table of a certificate
abbrev whole : ℕ → Data → Data → Data → Data → Members
whole format bounds orders reasons streams =
    member (codes "bound") bounds (member (codes "format") (integer (pos format)) (member (codes "order") orders (member (codes "reason") reasons (member (codes "stream") streams no_members))))

-- a format that there is is 1 or 2
some_format : (format : ℕ) (lists : Bool) → (format == 2 || (format == 1 && not lists)) ≡ true → format ≤ 2
some_format format lists formatted =
    elim (or_parts (format == 2) (format == 1 && not lists) formatted) [
      | inl second ↦ let is : format ≡ 2 = eqb-true format 2 second in omega (arith, is)
      | inr first ↦ let is : format ≡ 1 = eqb-true format 1 (and_parts (format == 1) (not lists) first).0 in omega (arith, is)
    ]
  where
    or_parts : (a b : Bool) → (a || b) ≡ true → (a ≡ true) ⊎ (b ≡ true)
    or_parts true b e = inl refl
    or_parts false b e = inr e

certificate_read : (certificate : Claims) (bounds orders reasons streams : Data) → entries_as names.Bound bound_of bounds ≡ Ok certificate.bounds
    → entries_as names.Order order_of orders ≡ Ok certificate.orders → entries_as names.Reason reason_of reasons ≡ Ok certificate.reasons → entries_as names.Stream stream_of streams ≡ Ok certificate.streams
    → is_formatted certificate ≡ true → certificate_of (whole certificate.format bounds orders reasons streams) ≡ Ok certificate
unfolding certificate_of claims_of only needed field
certificate_read certificate bounds orders reasons streams b o r s formatted =
    let known = some_format certificate.format (list_any has_list certificate.streams) formatted in
    rw (whole_of-pos (2 ^ 16) certificate.format (omega (arith, known)), b, o, r, s, formatted) refl

-- A list is above the headers where it is empty.
list_pairs : {X : Type 0} (xs : List X) (values : List Value) (name : List ℕ) (ms : Members) → length values ≡ length xs → are_tables (items_view values) ≡ true
    → pairs (member name (array (items_view values)) ms) ≡ pair_of xs name ++ pairs ms
list_pairs [] [] name ms count tabled = refl
list_pairs (x ∷ xs) (v ∷ values) name ms count tabled =
    let filled : (length (x ∷ xs) == 0) ≡ false = grind (arith, nat_tests) in
    rw (tabled, filled) refl
list_pairs (x ∷ xs) [] name ms count tabled = absurd (omega (arith, count))
list_pairs [] (v ∷ values) name ms count tabled = absurd (omega (arith, count))

-- The first line is no header.
unstarted : (is_empty : Bool) (name : List ℕ) (key : List (List ℕ) × List ℕ) (d : Data) (es fs : List Expression) (text : List ℕ)
    → IsLinesText false true ((pair_where is_empty name ++ ((key, key_value d) ∷ es)) ++ fs) text → IsLinesText false false ((pair_where is_empty name ++ ((key, key_value d) ∷ es)) ++ fs) text
unstarted true name key d es fs text lines = lines
unstarted false name key d es fs text lines = lines

-- the lines of the lists
abbrev list_lines : List Value → List Value → List Value → List Value → List Expression
list_lines bounds orders reasons streams =
    elements ([], codes "bound") (items_view bounds) ++ (elements ([], codes "order") (items_view orders)
    ++ (elements ([], codes "reason") (items_view reasons) ++ (elements ([], codes "stream") (items_view streams) ++ [])))

lists_appended : (certificate : Claims) (a b : List ℕ) (lists : AppendsLists certificate a b)
    → AppendsLines (list_lines lists.bounds.values lists.orders.values lists.reasons.values lists.streams.values) a b
lists_appended certificate a b lists =
    lines_then _ _ a lists.with_bounds b lists.bounds.lines
    (lines_then _ _ lists.with_bounds lists.with_orders b lists.orders.lines
    (lines_then _ _ lists.with_orders lists.with_reasons b lists.reasons.lines
    (lines_then _ _ lists.with_reasons b b lists.streams.lines (lines_none b))))

pairs_whole : (certificate : Claims) (bounds orders reasons streams : List Value) → length bounds ≡ length certificate.bounds → length orders ≡ length certificate.orders
    → length reasons ≡ length certificate.reasons → length streams ≡ length certificate.streams → are_tables (items_view bounds) ≡ true → are_tables (items_view orders) ≡ true
    → are_tables (items_view reasons) ≡ true → are_tables (items_view streams) ≡ true
    → pairs (whole certificate.format (array (items_view bounds)) (array (items_view orders)) (array (items_view reasons)) (array (items_view streams))) ≡ pairs_of certificate
pairs_whole certificate bounds orders reasons streams b o r s are_bounds are_orders are_reasons are_streams =
    let from_streams = member (codes "stream") (array (items_view streams)) no_members in
    let from_reasons = member (codes "reason") (array (items_view reasons)) from_streams in
    let from_orders = member (codes "order") (array (items_view orders)) from_reasons in
    let from_format = member (codes "format") (integer (pos certificate.format)) from_orders in
    rw (
      list_pairs certificate.bounds bounds (codes "bound") from_format b are_bounds,
      list_pairs certificate.orders orders (codes "order") from_reasons o are_orders,
      list_pairs certificate.reasons reasons (codes "reason") from_streams r are_reasons,
      list_pairs certificate.streams streams (codes "stream") no_members s are_streams,
      append-nil (pair_of certificate.streams (codes "stream")),
    ) refl

sections_whole : (format : ℕ) (bounds orders reasons streams : List Value) → are_tables (items_view bounds) ≡ true → are_tables (items_view orders) ≡ true
    → are_tables (items_view reasons) ≡ true → are_tables (items_view streams) ≡ true
    → sections [] (whole format (array (items_view bounds)) (array (items_view orders)) (array (items_view reasons)) (array (items_view streams))) ≡ list_lines bounds orders reasons streams
sections_whole format bounds orders reasons streams b o r s = rw (b, o, r, s) refl

pub certificate_printed : (certificate : Claims) (start middle text : List ℕ) → start ≡ [] → AppendsLines (pairs_of certificate) start middle
    → AppendsLists certificate middle text → is_formatted certificate ≡ true → certificate_from text ≡ Ok certificate
certificate_printed certificate start middle text empty above lists formatted =
    let bounds = array (items_view lists.bounds.values) in
    let orders = array (items_view lists.orders.values) in
    let reasons = array (items_view lists.reasons.values) in
    let streams = array (items_view lists.streams.values) in
    let fields = whole certificate.format bounds orders reasons streams in
    let lines = lines_then _ _ start middle text above (lists_appended certificate middle text lists) in
    let same : text ≡ lines.text = lines.appended ∙ ap (λ t. t ++ lines.text) empty in
    let pairs_same = pairs_whole certificate (lists.bounds.values) (lists.orders.values) (lists.reasons.values) (lists.streams.values) lists.bounds.count lists.orders.count lists.reasons.count lists.streams.count
    lists.bounds.tabled lists.orders.tabled lists.reasons.tabled lists.streams.tabled in
    let sections_same = sections_whole certificate.format lists.bounds.values lists.orders.values lists.reasons.values lists.streams.values lists.bounds.tabled lists.orders.tabled lists.reasons.tabled lists.streams.tabled in
    let expressions_same : expressions fields ≡ pairs_of certificate ++ list_lines lists.bounds.values lists.orders.values lists.reasons.values lists.streams.values =
    rw (pairs_same, sections_same) refl in
    let spelled = unstarted (length certificate.bounds == 0) (codes "bound") ([], codes "format") (integer (pos certificate.format)) _ _ lines.text lines.spelled in
    let doc : IsDocumentText false fields lines.text = subst (λ es. IsLinesText false false es lines.text) (sym expressions_same) spelled in
    let deep : members_depth fields ≤ 80 = omega (arith, lists.bounds.printable.shallow, lists.orders.printable.shallow, lists.reasons.printable.shallow, lists.streams.printable.shallow) in
    let dated : members_have_valid_dates fields ≡ true = rw (lists.bounds.dated, lists.orders.dated, lists.reasons.dated, lists.streams.dated) refl in
    let sorted : members_are_sorted fields ≡ true = rw (lists.bounds.printable.sorted, lists.orders.printable.sorted, lists.reasons.printable.sorted, lists.streams.printable.sorted) refl in
    let parsed : parse_document text ≡ Some fields = rw same (parse_document-printed false fields lines.text doc deep dated sorted) in
    rw parsed
    (certificate_read certificate bounds orders reasons streams (entries_as-array names.Bound bound_of lists.bounds.values certificate.bounds lists.bounds.reads)
    (entries_as-array names.Order order_of lists.orders.values certificate.orders lists.orders.reads)
    (entries_as-array names.Reason reason_of lists.reasons.values certificate.reasons lists.reasons.reads)
    (entries_as-array names.Stream stream_of lists.streams.values certificate.streams lists.streams.reads) formatted)
