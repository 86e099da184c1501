-- What calls with prepared set keys are answered.
use Rattle.std.specs.Prelude.{◌≡◌, ◌⊎◌, ℕ, List, Option, Some, None, Result, Ok, Err, length}
use Rattle.metric_contents.specs.Encoding.{Given, encode_of}
use Rattle.metric_contents.specs.Refusals.{number_of}
use Rattle.metric_contents.specs.declared.refusal.Refusal.{Refusal}
use Rattle.metric_hosted.specs.declared.planned.HostedRecorder.{HostedRecorder}
use Rattle.metric_hosted.specs.Hosts.{HostedValue}
use Rattle.metric_hosted.specs.Listings.{AnswersList}
use Rattle.metric_plan.specs.Plans.{PlanValue}
use Rattle.metric_seat.specs.declared.fault.SetsFault.{SetsFault}
use Rattle.metric_seat.specs.declared.keys.Measurement.{Measurement}
use Rattle.wormweekly_c.specs.Codes.{IsWantOfMemory}

-- the code of a set key that attributes were encoded to, and the key; or of their first refusal
abbrev pub IsEncoded : Result (List ℕ) Refusal → ℕ → List ℕ → Type 0
IsEncoded (Ok key) code set = (code ≡ 0) × (set ≡ key)
IsEncoded (Err refusal) code set = code ≡ number_of refusal

-- the answer to so many attributes, which were read or are none
abbrev pub IsPrepared : PlanValue → ℕ → ℕ → Option (List Given) → ℕ → List ℕ → Type 0
IsPrepared plan instrument count None code set = (code ≡ 101) ⊎ IsWantOfMemory count code
IsPrepared plan instrument count (Some attrs) code set =
    IsEncoded (encode_of plan.facts.contents.instruments instrument attrs) code set
    ⊎ IsWantOfMemory count code

-- the code and the number of those made: 0 and all, else the number of
-- the refusal of the one after them
abbrev pub IsListCode : Result (Unit {0}) SetsFault → List Measurement → ℕ → ℕ → Type 0
IsListCode (Ok done) list made code = (code ≡ 0) × (made ≡ length list)
IsListCode (Err stop) list made code = (code ≡ number_of stop.refusal) × (made ≡ stop.place)

-- The recordings of a list are made as they are answered.
pub record RecordsList (list : List Measurement) (made code : ℕ) (old new : HostedValue)
    (before after : HostedRecorder) : Type 0 where
  pub plan : after.plan ≡ before.plan
  pub result : Result (Unit {0}) SetsFault
  pub recorded : AnswersList before.plan old new before.seat after.seat list result
  pub is : IsListCode result list made code
