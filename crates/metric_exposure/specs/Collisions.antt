-- Names that two families claim.
use Rattle.std.specs.Prelude.{ℕ, Bool, ◌&&◌, ◌==◌, List, [], ◌∷◌, Option, Some, None, codes}
use Rattle.std.specs.Prelude.{if◌then◌else◌, slice_get}
use Rattle.std.specs.List.{filter_map, position_from}
use Rattle.std.specs.Option.{option_map}
use Rattle.metric_views.specs.declared.stream.Stream.{Stream}
use Rattle.metric_family.specs.Families.{claims_of}
use Rattle.metric_family.specs.Words.{is_among}
use Rattle.metric_exposure.specs.declared.fault.ExposureFault.{ExposureFault}
use Rattle.metric_exposure.specs.declared.fault.ExposureFault.TheVariants.{NameCollision}

-- a stream of the reader claims the name
abbrev pub is_claimed : ℕ → List ℕ → Stream → Bool
is_claimed reader name stream = stream.reader == reader && is_among (claims_of stream) name

-- # collision of a name (profile) [first_claim, collision_by]
-- The first name of a stream that the target claims or an earlier stream of the reader, with the
-- first such stream.
unfoldable pub first_claim : ℕ → List Stream → List ℕ → Option ℕ
first_claim reader streams name = position_from (is_claimed reader name) 0 streams

-- # names of the target (Prometheus, automatically generated labels and time series)
-- What describes the target, and what a server writes itself of each target that it scrapes.
abbrev pub target_names : List (List ℕ)
target_names =
    codes "target" ∷ codes "target_info" ∷ codes "up" ∷ codes "scrape_duration_seconds"
    ∷ codes "scrape_samples_scraped" ∷ codes "scrape_samples_post_metric_relabeling"
    ∷ codes "scrape_series_added" ∷ []

abbrev pub is_of_target : List ℕ → Bool
is_of_target name = is_among target_names name

-- the fault of a stream that claims a name which the target claims, or a stream before
abbrev pub name_fault : ℕ → (List ℕ → Option ℕ) → List ℕ → Option ExposureFault
name_fault number first name =
    if is_of_target name then Some (NameCollision number None)
    else option_map (λ other. NameCollision number (Some other)) (first name)

-- that of the first such name, where these streams claim each name first
abbrev pub collision_by : ℕ → (List ℕ → Option ℕ) → List (List ℕ) → Option ExposureFault
collision_by number first names = slice_get (filter_map (name_fault number first) names) 0
