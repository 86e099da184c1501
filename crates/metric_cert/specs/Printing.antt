-- How the text of a certificate is made, piece by piece.
use Rattle.std.specs.Prelude.{◌≡◌, ℕ, pos, true, false, Bool, ◌==◌, ◌+◌, List, [], ◌∷◌, ◌++◌}
use Rattle.std.specs.Prelude.{length, map, Result, Ok, codes}
use Rattle.toml.specs.Data.{Data, integer, array, no_items, item, no_members, member}
use Rattle.toml.specs.Data.{has_valid_dates, items_have_valid_dates}
use Rattle.toml.specs.Tables.{Expression, key_value}
use Rattle.toml.specs.Text.{IsDocumentText, IsLinesText, are_tables, elements, expressions}
use Rattle.toml.specs.View.{items_view, view}
use Rattle.toml.specs.declared.value.Value.{Value}
use Rattle.metric_table.specs.Fields.{each_alone}
use Rattle.metric_cert.specs.declared.claims.Claims.{Claims}
use Rattle.metric_cert.specs.declared.fault.CertFault.{CertFault}
use Rattle.metric_cert.specs.Bounds.{bound_of}
use Rattle.metric_cert.specs.Orders.{order_of}
use Rattle.metric_cert.specs.Reading.{table_as}
use Rattle.metric_cert.specs.Reasons.{reason_of}
use Rattle.metric_cert.specs.Streams.{stream_of}
use Rattle.metric_cert.specs.Writing.{IsPrintable}

-- The text is a document whose only field is this.
pub record IsFieldText (name : List ℕ) (d : Data) (text : List ℕ) : Type 0 where
  pub spelled : IsDocumentText false (member name d no_members) text
  pub dated : has_valid_dates d ≡ true

-- Lines were written after others.
pub record AppendsLines (lines : List Expression) (before after : List ℕ) : Type 0 where
  pub text : List ℕ
  pub appended : after ≡ before ++ text
  pub spelled : IsLinesText false true lines text

-- a field on a line of its own
abbrev pub pair : List ℕ → Data → List Expression
pair name d = (([], name), key_value d) ∷ []

-- The field is written on a line of its own, and under no header.
abbrev pub IsPair : List ℕ → Data → Type 0
IsPair name d = expressions (member name d no_members) ≡ pair name d

-- a list is written on a line of its own where it is empty
abbrev pub pair_where : Bool → List ℕ → List Expression
pair_where true name = pair name (array no_items)
pair_where false name = []

abbrev pub pair_of : {X : Type 0} → List X → List ℕ → List Expression
pair_of xs = pair_where (length xs == 0)

-- the lines of a certificate above its first header
abbrev pub pairs_of : Claims → List Expression
pairs_of claims =
    pair_of claims.bounds (codes "bound") ++ (pair (codes "format") (integer (pos claims.format))
    ++ (pair_of claims.orders (codes "order")
    ++ (pair_of claims.reasons (codes "reason") ++ pair_of claims.streams (codes "stream"))))

-- A table of a list was written under its header, which is read as this.
pub record AppendsEntry {X : Type 0} (step : Data → Result X CertFault) (levels : ℕ) (name : List ℕ)
    (x : X) (before after : List ℕ) : Type 0 where
  pub value : Value
  pub reads : step (view value) ≡ Ok x
  pub printable : IsPrintable levels (view value)
  pub dated : has_valid_dates (view value) ≡ true
  pub tabled : are_tables (item (view value) no_items) ≡ true
  pub lines : AppendsLines (elements ([], name) (item (view value) no_items)) before after

-- The tables of a list were written, each under its header.
pub record AppendsEntries {X : Type 0} (step : Data → Result X CertFault) (levels : ℕ)
    (name : List ℕ) (xs : List X) (before after : List ℕ) : Type 0 where
  pub values : List Value
  pub count : length values ≡ length xs
  pub reads : each_alone step (map view values) ≡ Ok xs
  pub printable : IsPrintable (levels + 1) (array (items_view values))
  pub dated : items_have_valid_dates (items_view values) ≡ true
  pub tabled : are_tables (items_view values) ≡ true
  pub lines : AppendsLines (elements ([], name) (items_view values)) before after

-- The four lists of a certificate were written.
pub record AppendsLists (claims : Claims) (before after : List ℕ) : Type 0 where
  pub with_bounds : List ℕ
  pub with_orders : List ℕ
  pub with_reasons : List ℕ
  pub bounds : AppendsEntries (table_as bound_of) 1 (codes "bound") claims.bounds before with_bounds
  pub orders : AppendsEntries (table_as order_of) 2
      (codes "order") claims.orders with_bounds with_orders
  pub reasons : AppendsEntries (table_as reason_of) 3
      (codes "reason") claims.reasons with_orders with_reasons
  pub streams : AppendsEntries (table_as stream_of) 3
      (codes "stream") claims.streams with_reasons after
