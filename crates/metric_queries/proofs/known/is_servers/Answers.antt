use Rattle.std.proofs.Common.{◌≡◌, ◌∙◌, ap, sym, ℕ, Bool, List, [], ◌∷◌, ◌&&◌, ◌||◌, Bor, map, refl}
use Rattle.std.specs.List.{list_any}
use Rattle.metric_queries.specs.ByKeys.{takes_at}
use Rattle.metric_queries.specs.Matching.{name_label}
use Rattle.metric_queries.specs.Remarks.{server_names}
use Rattle.metric_queries.proofs.known.is_servers.Goals as goal

any_map : {X Y : Type 0} (p : X → Bool) (h : Y → X) (ys : List Y) → list_any p (map h ys) ≡ list_any (λ y. p (h y)) ys
any_map p h [] = refl
any_map p h (y ∷ ys) = ap (λ b. p (h y) || b) (any_map p h ys)

pub returns : goal.returns
returns c =
    let test = λ (name : List ℕ). takes_at name_label name c.args.asked.now in
    let now = λ (name : Bor (List ℕ)). name.now in
    let names = c.server_names.result.now in
    let asks = sym c.asks_for_name.ensures ∙ c.if-not-asks_for_name.false in
    c.in_ok-takes_some.ensures ∙ sym (any_map test now names) ∙ ap (list_any test) c.server_names.ensures
    ∙ sym (ap (λ b. b && list_any test server_names) asks)
