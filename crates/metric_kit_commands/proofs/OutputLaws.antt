-- An input has one output.
use Rattle.std.proofs.Common.{Bool, true, false, inl, inr, ◌≡◌, ℕ, List, [], ◌++◌, Option, Some, None, Ok, IsSomeAnd, sym, ap, subst, ◌∙◌}
use Rattle.metric_base.specs.StepLaws.{ok_is}
use Rattle.metric_contents.specs.declared.contents.Contents.{Contents as Declared}
use Rattle.metric_views.specs.Configs.{config_of}
use Rattle.metric_views.specs.declared.config.Setup.{Setup}
use Rattle.metric_parts.specs.Input.{Contents, IsInput}
use Rattle.metric_parts.specs.Kept.{IsRead, read_of}
use Rattle.metric_parts.specs.Texts.{ScriptLines}
use Rattle.metric_parts.specs.declared.needs.Needs.{Needs}
use Rattle.metric_parts.specs.declared.parts.Parts.{Parts}
use Rattle.metric_script.specs.Scripts.{IsScript}
use Rattle.metric_history.specs.Legal.{AllLegal}
use Rattle.metric_plan.specs.Plans.{PlanValue, plan_of}
use Rattle.metric_cert.specs.Certificates.{certificate_from}
use Rattle.metric_cert.specs.declared.claims.Claims.{Claims as Certificate}
use Rattle.metric_check.specs.Products.{by_product_of}
use Rattle.metric_history.specs.declared.event.Event.{Event}
use Rattle.metric_history.specs.declared.event.Reply.{Reply}
use Rattle.metric_kit_commands.specs.declared.options.ReplayOptions.{ReplayOptions}
use Rattle.metric_kit_commands.specs.Declarations.{contents_in, IsDeclared}
use Rattle.metric_kit_commands.specs.Replies.{replies_text}
use Rattle.metric_kit_commands.specs.Replaying.{IsPlanned, IsOutput, audit_text}
use Rattle.metric_kit_commands.proofs.AnswerLaws.{one_run}

some_is : {A : Type 0} (x y : A) (o : Option A) → o ≡ Some x → o ≡ Some y → x ≡ y
some_is x y o p q = cc

same_read : (law : (needs : Needs) (lines : List (List ℕ)) (a b : Contents) → IsInput needs lines a → IsInput needs lines b → a ≡ b)
    → (needs : Needs) (lines : List (List ℕ)) (a b : Parts) → IsRead needs lines a → IsRead needs lines b → a ≡ b
same_read law needs lines a b p q = p.texts ∙ ap (read_of needs) (law needs lines p.parts q.parts p.is_input q.is_input) ∙ sym q.texts

-- parts have one catalogue and one config
same_facts : (is_certified : Bool) (by_product : List Bool) (read : Parts) (c d : Declared) (e f : Setup) → IsDeclared read c e → IsDeclared read d f
    → plan_of is_certified by_product c e ≡ plan_of is_certified by_product d f
same_facts is_certified by_product read c d e f p q =
    let contents : c ≡ d = ok_is c d (contents_in read) p.is_catalogue q.is_catalogue in
    let config : e ≡ f = ok_is e f (config_of read.config) p.is_config q.is_config in
    ap (λ (x : Declared). plan_of is_certified by_product x e) contents ∙ ap (λ (x : Setup). plan_of is_certified by_product d x) config

-- parts have one certificate
same_certificate : (text : Option (List ℕ)) (a b : Certificate) → IsSomeAnd text (λ t. certificate_from t ≡ Ok a) → IsSomeAnd text (λ t. certificate_from t ≡ Ok b) → a ≡ b
same_certificate None a b p q = absurd p
same_certificate (Some text) a b p q = ok_is a b (certificate_from text) p q

same_plan : (options : ReplayOptions) (read : Parts) (a b : PlanValue) → IsPlanned options read a → IsPlanned options read b → a ≡ b
same_plan options read a b (inl (_, p)) (inl (_, q)) = p.planned ∙ same_facts false [] read p.contents q.contents p.config q.config p.declared q.declared ∙ sym q.planned
same_plan options read a b (inr (_, p)) (inr (_, q)) =
    p.planned
    ∙ same_facts true (by_product_of p.certificate) read p.contents q.contents p.config q.config p.claimed.declared q.claimed.declared
    ∙ ap (λ (c : Certificate). plan_of true (by_product_of c) q.contents q.config) (same_certificate read.certificate p.certificate q.certificate p.claimed.is_certificate q.claimed.is_certificate)
    ∙ sym q.planned
same_plan options read a b (inl (trial, p)) (inr (certified, q)) = absurd cc
same_plan options read a b (inr (certified, p)) (inl (trial, q)) = absurd cc

pub one_output : (parts : (needs : Needs) (lines : List (List ℕ)) (a b : Contents) → IsInput needs lines a → IsInput needs lines b → a ≡ b)
    → (starts : (lines : List (List ℕ)) (s t : ℕ) (a b : List Event) → IsScript lines s a → IsScript lines t b → s ≡ t)
    → (events : (lines : List (List ℕ)) (s t : ℕ) (a b : List Event) → IsScript lines s a → IsScript lines t b → a ≡ b)
    → (options : ReplayOptions) (input a b : List ℕ) → IsOutput options input a → IsOutput options input b → a ≡ b
one_output parts starts events options input a b p q =
    let x = p.is_answer in
    let y = q.is_answer in
    let s = x.answered in
    let t = y.answered in
    let read : p.read ≡ q.read = same_read parts _ _ p.read q.read p.is_read q.is_read in
    let plan : x.plan ≡ y.plan = same_plan options q.read x.plan y.plan (subst (λ (r : Parts). IsPlanned options r x.plan) read s.is_planned) t.is_planned in
    let script : s.script ≡ t.script = some_is s.script t.script q.read.script (ap (λ (r : Parts). r.script) (sym read) ∙ s.has_script) t.has_script in
    let here : IsScript t.script.lines s.start s.events = subst (λ (l : ScriptLines). IsScript l.lines s.start s.events) script s.is_script in
    let start : s.start ≡ t.start = starts t.script.lines s.start t.start s.events t.events here t.is_script in
    let run : s.events ≡ t.events = events t.script.lines s.start t.start s.events t.events here t.is_script in
    let on_plan : AllLegal y.plan.facts s.start [] s.events x.replies = subst (λ (v : PlanValue). AllLegal v.facts s.start [] s.events x.replies) plan s.run.legal in
    let on_start : AllLegal y.plan.facts t.start [] s.events x.replies = subst (λ (n : ℕ). AllLegal y.plan.facts n [] s.events x.replies) start on_plan in
    let on_events : AllLegal y.plan.facts t.start [] t.events x.replies = subst (λ (es : List Event). AllLegal y.plan.facts t.start [] es x.replies) run on_start in
    let replies : x.replies ≡ y.replies = one_run y.plan.facts t.start [] t.events x.replies y.replies on_events t.run.legal s.run.remembered t.run.remembered in
    x.written
    ∙ ap (λ (v : PlanValue). replies_text v x.replies ++ audit_text options x.replies) plan
    ∙ ap (λ (rs : List Reply). replies_text y.plan rs ++ audit_text options rs) replies
    ∙ sym y.written
