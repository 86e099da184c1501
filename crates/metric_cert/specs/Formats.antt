-- The formats of certificates.
use Rattle.std.specs.Prelude.{ℕ, Bool, List, true, false, not, ◌&&◌, ◌||◌, ◌==◌}
use Rattle.std.specs.List.{list_any}
use Rattle.metric_cert.specs.declared.claims.Claims.{Claims}
use Rattle.metric_cert.specs.declared.stream.By.{By}
use Rattle.metric_cert.specs.declared.stream.By.TheVariants as by
use Rattle.metric_cert.specs.declared.stream.StreamSets.{StreamSets}

abbrev pub is_list : By → Bool
is_list by.Product = false
is_list (by.List list) = true
is_list by.Budget = false

-- the stream is bounded by a list
abbrev pub has_list : StreamSets → Bool
has_list stream = is_list stream.by

-- the format is 2, or 1, in which no stream is bounded by a list
abbrev pub is_format_of : List StreamSets → ℕ → Bool
is_format_of streams format = format == 2 || (format == 1 && not (list_any has_list streams))

-- # claims of a format (profile)
-- The format is 2, or 1, in which no stream is by list.
abbrev pub is_formatted : Claims → Bool
is_formatted claims = is_format_of claims.streams claims.format
