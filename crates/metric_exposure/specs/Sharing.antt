-- Streams of several meters that stand under one name.
use Rattle.std.specs.Prelude.{ℕ, Bool, false, not, ◌&&◌, ◌||◌, ◌==◌, List, [], ◌∷◌, ◌++◌}
use Rattle.std.specs.Prelude.{Option, Some, None, codes, slice_get}
use Rattle.std.specs.Cmp.Lexicographic.{pointwise}
use Rattle.std.specs.List.{position_from}
use Rattle.std.specs.Ordering.{int_eq}
use Rattle.std.specs.Option.{option_map, option_map_or}
use Rattle.std.specs.Str.{bytes_eq}
use Rattle.metric_contents.specs.declared.contents.Contents.{Contents}
use Rattle.metric_contents.specs.declared.contents.Key.{Key}
use Rattle.metric_contents.specs.declared.contents.Meter.{Meter}
use Rattle.metric_views.specs.declared.stream.Stream.{Stream}
use Rattle.metric_family.specs.Families.{family, type_name, type_of, unit_text}
use Rattle.metric_family.specs.Labels.{label_of, scope_names}
use Rattle.metric_family.specs.Words.{is_among}
use Rattle.metric_exposure.specs.declared.fault.ExposureFault.{ExposureFault}
use Rattle.metric_exposure.specs.declared.fault.ExposureFault.TheVariants.{NameCollision}
use Rattle.metric_exposure.specs.Sources.{boundaries_of, keys_of, meter_of}

-- # streams that a page gathers (OpenTelemetry, Prometheus compatibility) [is_alike, are_shared,
-- is_led_by, scoped, first_scoped]
-- Streams with one family, type, unit and boundaries, of which no kept key has a label of the scope.
-- Each stands under the name of the first of them, unless one before it has the same scope.
abbrev pub is_alike : Stream → Stream → Bool
is_alike other stream =
    bytes_eq (family other) (family stream)
    && bytes_eq (type_name (type_of other)) (type_name (type_of stream))
    && bytes_eq (unit_text other) (unit_text stream)
    && pointwise int_eq (boundaries_of other.aggregation) (boundaries_of stream.aggregation)

-- a kept key has a label of the scope
abbrev pub keeps_scope : List Key → List Bool → Bool
keeps_scope [] kept = false
keeps_scope (key ∷ keys) [] = false
keeps_scope (key ∷ keys) (own ∷ kept) =
    (own && is_among scope_names (label_of key.name)) || keeps_scope keys kept

abbrev pub is_scope_kept : Contents → Stream → Bool
is_scope_kept contents stream = keeps_scope (keys_of contents stream) stream.kept

-- two streams that may stand under one name
unfoldable pub are_shared : Contents → Stream → Stream → Bool
are_shared contents other stream =
    is_alike other stream && not (is_scope_kept contents other)
    && not (is_scope_kept contents stream)

-- the stream may stand under the name of the first one that claims its family
abbrev pub is_led_by : Contents → List Stream → Stream → Option ℕ → Bool
is_led_by contents streams stream None = false
is_led_by contents streams stream (Some leader) =
    option_map_or (λ other. are_shared contents other stream) (slice_get streams leader) false

-- the texts of a scope, behind a family
abbrev pub scope_text : Option Meter → List ℕ
scope_text None = []
scope_text (Some meter) =
    codes "\n" ++ meter.name ++ codes "\n" ++ meter.version ++ codes "\n" ++ meter.schema_url

unfoldable pub scoped : Contents → Stream → List ℕ
scoped contents stream = family stream ++ scope_text (meter_of contents stream)

-- a stream of the reader has the family and the scope
abbrev pub is_scoped : Contents → ℕ → List ℕ → Stream → Bool
is_scoped contents reader name stream =
    stream.reader == reader && bytes_eq name (scoped contents stream)

-- the first such stream
unfoldable pub first_scoped : Contents → ℕ → List Stream → List ℕ → Option ℕ
first_scoped contents reader streams name =
    position_from (is_scoped contents reader name) 0 streams

-- the fault of a stream that stands under the name of another one, where one before has its scope
abbrev pub scope_fault : ℕ → Option ℕ → Option ExposureFault
scope_fault number first = option_map (λ other. NameCollision number (Some other)) first
