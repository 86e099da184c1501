-- The last batches that a run keeps make the page of its replies.
use Rattle.std.proofs.Common.{◌≡◌, ◌+◌, ◌<◌, ◌++◌, ℕ, List, [], ◌∷◌, Option, Some, None, get_or, length, refl, sym, ap, subst, ◌∙◌, append_assoc, arith}
use Rattle.std.specs.List.{filter_map, last_or}
use Rattle.std.proofs.lemmas.List.Elements.{filter_map-append}
use Rattle.std.proofs.lemmas.List.FromFn.{fill_by_all}
use Rattle.metric_history.specs.declared.batch.Batch.{Batch}
use Rattle.metric_history.specs.declared.event.Reply.{Reply}
use Rattle.metric_plan.specs.Plans.{PlanValue}
use Rattle.metric_kit_commands.specs.Pages.{AreLast, Keeps, KeepsLast, batch_of, last_batch, last_batches, page_of_last, page_text}

-- they are the last ones of all instruments
are_last_batches : (reader count : ℕ) (last : List (Option Batch)) (replies : List Reply) → AreLast reader count last replies → last ≡ last_batches reader count replies
are_last_batches reader count last replies known = fill_by_all (λ (instrument : ℕ). last_batch reader instrument replies) last count None known.len known.each

pub last_is_page : (encode : PlanValue → List (Option Batch) → List ℕ) (reader : ℕ) (head tail : List ℕ) (plan : PlanValue) (replies : List Reply) (last : List (Option Batch))
    → AreLast reader (length plan.facts.contents.instruments) last replies → page_of_last encode head tail plan last ≡ page_text encode reader head tail plan replies
last_is_page encode reader head tail plan replies last known =
    ap (page_of_last encode head tail plan) (are_last_batches reader (length plan.facts.contents.instruments) last replies known)

last_or-append : {X : Type 0} (d : Option X) (xs ys : List X) → last_or d (xs ++ ys) ≡ last_or (last_or d xs) ys
last_or-append d [] ys = refl
last_or-append d (x ∷ xs) ys = last_or-append (Some x) xs ys

-- one reply more
pub one_reply_more : (reader count : ℕ) (old new : List (Option Batch)) (told : List Reply) (reply : Reply) → AreLast reader count old told → KeepsLast reader old new reply
    → AreLast reader count new (told ++ reply ∷ [])
one_reply_more reader count old new told reply known keeps = record {
  len = keeps.len ∙ known.len;
  each = λ i low.
      keeps.each i (omega (arith, known.len))
      ∙ ap (λ (o : Option Batch). last_or o (filter_map (batch_of reader i) (reply ∷ []))) (known.each i low)
      ∙ sym (last_or-append None (filter_map (batch_of reader i) told) (filter_map (batch_of reader i) (reply ∷ [])))
      ∙ ap (last_or None) (sym (filter_map-append (batch_of reader i) told (reply ∷ [])));
}

pub keeps_one : (reader : ℕ) (old : List (Option Batch)) (before after : ℕ) (now next : List (Option Batch)) (more : List Reply) (reply : Reply) → Keeps reader old before now more
    → after ≡ before → KeepsLast before now next reply → Keeps reader old after next (more ++ reply ∷ [])
keeps_one reader old before after now next more reply keeps same one = record {
  reader_is = same ∙ keeps.reader_is;
  are_last = λ count told known.
      subst (AreLast reader count next) (append_assoc told more (reply ∷ []))
      (one_reply_more reader count now next (told ++ more) reply (keeps.are_last count told known) (subst (λ (r : ℕ). KeepsLast r now next reply) keeps.reader_is one));
}
