-- the labels of a scope
use Rattle.std.proofs.Common.{ℕ, Bool, not, cond, List, [], ◌∷◌, ◌++◌, length, codes, ap, ◌∙◌, ◌==◌}
use Rattle.metric_exposure.proofs.Places.{scope_written}
use Rattle.metric_exposure.proofs.keys.add_scope.Goals as goal

pub returns : goal.returns
returns c =
    let out = c.args.labels.now.items in
    let meter = c.args.meter.now in
    let told : (List ℕ → Bool) = λ text. not (length text == 0) in
    let is_name = ap not c.is_empty-has_name.ensures ∙ ap told c.as_str.ensures in
    let is_version = ap not c.is_empty-has_version.ensures ∙ ap told c.as_str-2.ensures in
    let is_url = ap not c.is_empty-has_schema_url.ensures ∙ ap told c.as_str-3.ensures in
    let one = c.in_ok-push_if.ensures ∙ ap (λ b. out ++ cond b (codes "otel_scope_name" ∷ []) []) is_name in
    let two = c.in_ok-push_if-2.ensures ∙ ap (λ b. c.push_if.new.labels.items ++ cond b (codes "otel_scope_version" ∷ []) []) is_version ∙ ap (λ (labels : List (List ℕ)). labels ++ cond (told meter.version) (codes "otel_scope_version" ∷ []) []) one in
    c.in_ok-push_if-3.ensures ∙ ap (λ b. c.push_if-2.new.labels.items ++ cond b (codes "otel_scope_schema_url" ∷ []) []) is_url
    ∙ ap (λ (labels : List (List ℕ)). labels ++ cond (told meter.schema_url) (codes "otel_scope_schema_url" ∷ []) []) two
    ∙ scope_written out meter
