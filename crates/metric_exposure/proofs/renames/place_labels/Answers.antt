-- one place more
use Rattle.std.proofs.Common.{◌≡◌, ℕ, ◌+◌, Bool, List, ◌++◌, ◌∷◌, [], cond, false, Option, None, Some, length, map, add-one, codes, refl, sym, ap, ◌∙◌}
use Rattle.std.specs.Prelude.{is_some}
use Rattle.std.specs.Option.{option_map, unwrap_or}
use Rattle.std.specs.BTreeMap.{get_by_text}
use Rattle.metric_names.specs.Values.{value_text}
use Rattle.metric_family.specs.Words.{is_among}
use Rattle.metric_exposure.specs.Renames.{exported, is_reached, key_as, may_take}
use Rattle.metric_exposure.proofs.Places.{no_places, places_more, reached_more, told}
use Rattle.metric_exposure.proofs.renames.place_labels.Goals as goal

pub returns-in_default : goal.returns-in_default
returns-in_default c =
    let keys = c.args.keys.now in
    let kept = c.args.kept.now in
    let own = c.args.own.now in
    let none : None ≡ key_as keys kept own = rw c.in_default.is at c.in_ok-first.ensures in
    c.new-places.ensures.items ∙ sym (no_places keys kept own (length keys) none)

one_more : (own : List ℕ) (n : ℕ) → codes "exported_" ++ exported n own ≡ exported (n + 1) own
one_more own n = rw add-one refl

pub loop-times-preserved : goal.loop-times-preserved
loop-times-preserved c =
    let keys = c.args.keys.now in
    let kept = c.args.kept.now in
    let own = c.args.own.now in
    let n = c.loop-times._times in
    let first = c.in-Some.first.now in
    let before = c.loop-times.invariant in
    let among = is_among (map value_text first.values) in
    let found : List ℕ → Bool = λ text. is_some (get_by_text c.in_ok-texts.texts text) in
    let is_first : Some first ≡ key_as keys kept own = rw c.in-Some.is at c.in_ok-first.ensures in
    let same : found ≡ among = λ i text. c.in_ok-texts.ensures text i in
    let named : c.as_str.result.now ≡ exported n own = c.as_str.ensures ∙ before.name in
    let takes : c.in_ok-takes.takes ≡ told keys kept own among n =
    c.in_ok-takes.ensures
    ∙ ap (λ r. cond r (option_map (may_take found) (key_as keys kept c.as_str.result.now)) None) before.reached
    ∙ ap (λ (label : List ℕ). cond (is_reached keys kept own n) (option_map (may_take found) (key_as keys kept label)) None) named
    ∙ ap (λ (f : List ℕ → Bool). cond (is_reached keys kept own n) (option_map (may_take f) (key_as keys kept (exported n own))) None) same in
    record {
      name = c.in_ok-name-2.ensures ∙ ap (λ (label : List ℕ). codes "exported_" ++ label) (c.as_str-in-loop-times-2.ensures ∙ before.name) ∙ one_more own n;
      reached = c.is_some-is_reached.ensures ∙ ap is_some takes ∙ reached_more keys kept own among n;
      places =
          places_more keys kept own first n c.loop-times.places.items c.push_if.new.labels.items is_first before.places
          (c.in_ok-push_if.ensures
          ∙ ap (λ b. c.loop-times.places.items ++ cond b (c.as_str-in-loop-times.result.now ∷ []) []) (c.unwrap_or.ensures ∙ ap (λ (o : Option Bool). unwrap_or o false) takes)
          ∙ ap (λ (label : List ℕ). c.loop-times.places.items ++ cond (unwrap_or (told keys kept own among n) false) (label ∷ []) []) (c.as_str-in-loop-times.ensures ∙ before.name));
    }
