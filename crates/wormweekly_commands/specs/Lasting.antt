-- Whether the recordings of instruments last.
use Rattle.std.specs.Prelude.{◌*◌, ℕ, Bool, List, nat_lt}
use Rattle.std.specs.List.{list_any}
use Rattle.metric_lint.specs.declared.headroom.Headroom.{Headroom}
use Rattle.metric_command_lines.specs.declared.wormweekly.request.Options.{Options}

-- # whether the recordings of an instrument last (profile) [ends_early, some_end_early]
-- All that may be recorded on it, at so many a second, is recorded before so many seconds are over.
abbrev pub ends_early : Options → Headroom → Bool
ends_early options room = nat_lt room.total (options.rate * options.lasts)

-- those of some instrument do
abbrev pub some_end_early : Options → List Headroom → Bool
some_end_early options rooms = list_any (ends_early options) rooms
