-- The resource that words give, or why they give none.
use Rattle.std.proofs.Common.{◌≡◌, ◌∙◌, refl, sym, ap, Bool, true, false, ◌&&◌, List, [], ◌∷◌, Result, Err, cond, map}
use Rattle.std.specs.Borrow.{Bor}
use Rattle.std.specs.List.{list_all}
use Rattle.clap.specs.Words.{Text}
use Rattle.metric_base.specs.Steps.{with_fault}
use Rattle.metric_contents.specs.declared.attributes.OwnedAttr.{OwnedAttr}
use Rattle.metric_resource.specs.Resources.{resource_of}
use Rattle.metric_command_lines.specs.Attributes.{attribute_of, has_equals, misuse_of, resource_in}
use Rattle.metric_command_lines.specs.declared.wormweekly.fault.Misuse.{Misuse}
use Rattle.metric_command_lines.specs.declared.wormweekly.fault.Misuse.TheVariants.{NoEquals}

texts : List (Bor Text) → List Text
texts words = map (λ w. w.now) words

-- what is asked of texts that are lent is asked of the texts
all_lent : (words : List (Bor Text)) → list_all (λ (w : Bor Text). has_equals w.now) words ≡ list_all has_equals (texts words)
unfolding texts
all_lent [] = refl
all_lent (word ∷ words) = ap (λ (b : Bool). has_equals word.now && b) (all_lent words)

chosen : (words : List Text) (test : Bool) → test ≡ list_all has_equals words
    → resource_in words ≡ cond test (with_fault misuse_of (resource_of (map attribute_of words))) (Err NoEquals)
chosen words test is = ap (λ (b : Bool). cond b (with_fault misuse_of (resource_of (map attribute_of words))) (Err NoEquals)) (sym is)

-- some word has no `=`
pub missing : (words : List (Bor Text)) (test : Bool) → test ≡ list_all (λ (w : Bor Text). has_equals w.now) words → test ≡ false
    → resource_in (map (λ w. w.now) words) ≡ Err NoEquals
unfolding texts
missing words test is none =
    chosen (texts words) test (is ∙ all_lent words)
    ∙ ap (λ (b : Bool). cond b (with_fault misuse_of (resource_of (map attribute_of (texts words)))) (Err NoEquals)) none

-- each has one
pub given : (words : List (Bor Text)) (test : Bool) (attributes : List OwnedAttr) → test ≡ list_all (λ (w : Bor Text). has_equals w.now) words → test ≡ true
    → attributes ≡ map attribute_of (map (λ w. w.now) words)
    → resource_in (map (λ w. w.now) words) ≡ with_fault misuse_of (resource_of attributes)
unfolding texts
given words test attributes is all each =
    chosen (texts words) test (is ∙ all_lent words)
    ∙ ap (λ (b : Bool). cond b (with_fault misuse_of (resource_of (map attribute_of (texts words)))) (Err NoEquals)) all
    ∙ ap (λ (a : List OwnedAttr). with_fault misuse_of (resource_of a)) (sym each)
