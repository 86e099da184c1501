-- What keeps a reader's streams from a page of Prometheus, and from requests of OTLP.
use Rattle.std.specs.Prelude.{ℕ, ℤ, ◌^◌, Bool, ◌==◌, List, [], ◌++◌, Option, Result, Ok, Err}
use Rattle.std.specs.Prelude.{◌∷◌, if◌then◌else◌, length, nat_abs, nat_lt}
use Rattle.std.specs.Prelude.{slice_get, take}
use Rattle.std.specs.List.{flat_map, list_any, range_with_len}
use Rattle.std.specs.Option.{option_map_or, option_to_list}
use Rattle.metric_contents.specs.declared.contents.Contents.{Contents}
use Rattle.metric_views.specs.declared.stream.Stream.{Stream}
use Rattle.metric_facts.specs.Facts.{is_delta_temporality}
use Rattle.metric_family.specs.Families.{claims_of, family, type_of}
use Rattle.metric_exposure.specs.declared.fault.ExposureFault.{ExposureFault}
use Rattle.metric_exposure.specs.declared.fault.ExposureFault.TheVariants as faults
use Rattle.metric_exposure.specs.declared.outlet.Outlet.{Outlet}
use Rattle.metric_exposure.specs.declared.outlet.Outlet.TheVariants.{Prometheus, Otlp}
use Rattle.metric_exposure.specs.Collisions.{collision_by, first_claim}
use Rattle.metric_exposure.specs.KeyFaults.{all_key_faults, reserved_labels}
use Rattle.metric_exposure.specs.Sharing.{first_scoped, is_led_by, scope_fault, scoped}
use Rattle.metric_exposure.specs.Sources.{boundaries_of, keys_of, meter_of}

-- the fault, where the test holds
abbrev pub fault_if : Bool → ExposureFault → List ExposureFault
fault_if test fault = if test then fault ∷ [] else []

-- a whole number that is no double
abbrev pub is_inexact : ℤ → Bool
is_inexact boundary = nat_lt (2 ^ 53) (nat_abs boundary)

-- a boundary beyond 2^53 in size
abbrev pub boundary_faults : ℕ → Stream → List ExposureFault
boundary_faults number stream =
    fault_if (list_any is_inexact (boundaries_of stream.aggregation)) (faults.Boundary number)

-- the fault of a stream's names, where streams before it claim names, and scopes in families
abbrev pub own_name_fault
    : Contents → List Stream → (List ℕ → Option ℕ) → (List ℕ → Option ℕ) → ℕ → Stream
    → Option ExposureFault
own_name_fault contents streams first scopes number stream =
    if is_led_by contents streams stream (first (family stream))
    then scope_fault number (scopes (scoped contents stream))
    else collision_by number first (claims_of stream)

-- no name is left, or another one claims a name
abbrev pub name_faults
    : Contents → List Stream → (List ℕ → Option ℕ) → (List ℕ → Option ℕ) → ℕ → Stream
    → List ExposureFault
name_faults contents streams first scopes number stream =
    fault_if (length (family stream) == 0) (faults.Nameless number)
    ++ option_to_list (own_name_fault contents streams first scopes number stream)

-- the labels that no key of a stream may have
unfoldable pub reserved_of : Contents → Stream → List (List ℕ)
reserved_of contents stream =
    reserved_labels (type_of stream) (meter_of contents stream) (keys_of contents stream)
    stream.kept

-- the faults of a stream for pages, where these claim each name first, and each scope in a family
unfoldable pub page_faults
    : Contents → List Stream → (List ℕ → Option ℕ) → (List ℕ → Option ℕ) → ℕ → Stream
    → List ExposureFault
page_faults contents streams first scopes number stream =
    fault_if (is_delta_temporality stream.temporality) (faults.Delta number)
    ++ (boundary_faults number stream
    ++ (name_faults contents streams first scopes number stream
    ++ all_key_faults number (reserved_of contents stream) (keys_of contents stream) stream.kept))

-- the same of a way out
abbrev pub stream_faults : Outlet → Contents → List Stream → ℕ → ℕ → Stream → List ExposureFault
stream_faults Prometheus contents streams reader number stream =
    page_faults contents streams (first_claim reader (take number streams))
    (first_scoped contents reader (take number streams)) number stream
stream_faults Otlp contents streams reader number stream = boundary_faults number stream

-- the faults of the stream of a number, where it is the reader's
unfoldable pub faults_at : Outlet → Contents → List Stream → ℕ → ℕ → List ExposureFault
faults_at outlet contents streams reader number =
    option_map_or (λ (stream : Stream).
    if stream.reader == reader
    then stream_faults outlet contents streams reader number stream else [])
    (slice_get streams number) []

-- # faults of a reader's streams (profile)
-- Those of each stream in order: delta, boundary, name, keys; for OTLP boundaries alone.
unfoldable pub exposure_faults : Outlet → Contents → List Stream → ℕ → List ExposureFault
exposure_faults outlet contents streams reader =
    flat_map (faults_at outlet contents streams reader) (range_with_len 0 (length streams))

-- the first fault, where there is one
abbrev pub first_of : List ExposureFault → Result (Unit {0}) ExposureFault
first_of [] = Ok tt
first_of (fault ∷ others) = Err fault
