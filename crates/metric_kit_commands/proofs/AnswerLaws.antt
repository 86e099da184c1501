-- An event has one legal reply besides out of memory.
use Rattle.std.proofs.Common.{◌≡◌, Bool, true, false, ◌||◌, List, [], ◌∷◌, Result, Ok, Err, refl, sym, ap, ◌∙◌, ℕ}
use Rattle.std.specs.List.{list_any}
use Rattle.std.proofs.lemmas.Bool.{or_parts}
use Rattle.metric_contents.specs.declared.refusal.Refusal.{Refusal}
use Rattle.metric_contents.specs.declared.refusal.Refusal.TheVariants as refusals
use Rattle.metric_history.specs.declared.batch.Batch.{Batch}
use Rattle.metric_history.specs.declared.entry.Entry.{Entry}
use Rattle.metric_history.specs.declared.event.Event.{Event}
use Rattle.metric_history.specs.declared.event.Event.TheVariants.{Record, Collect, Close, Grant}
use Rattle.metric_history.specs.declared.event.Reply.{Reply}
use Rattle.metric_history.specs.declared.event.Reply.TheVariants.{Accepted, Collected, Done, Granted, Refused}
use Rattle.metric_history.specs.History.{History}
use Rattle.metric_history.specs.Legal.{LegalRecord, LegalCollect, LegalClose, LegalGrant, Legal, AllLegal}
use Rattle.metric_facts.specs.Facts.{RunFacts}
use Rattle.metric_kit_commands.specs.Replies.{is_want_of_memory}

-- a refusal that is out of memory is excluded
not_memory : (g : Refusal) → g ≡ refusals.Memory → is_want_of_memory (Refused g) ≡ false → ⊥
not_memory g e known = let t : is_want_of_memory (Refused g) ≡ true = ap (λ (r : Refusal). is_want_of_memory (Refused r)) e in absurd cc

one_record : (due : Result Entry Refusal) (r s : Reply) → LegalRecord due r → LegalRecord due s → is_want_of_memory r ≡ false → is_want_of_memory s ≡ false → r ≡ s
one_record (Ok entry) Accepted Accepted a b m n = refl
one_record (Ok entry) Accepted (Refused g) a b m n = absurd (not_memory g b n)
one_record (Ok entry) (Refused g) s a b m n = absurd (not_memory g a m)
one_record (Err refusal) (Refused g) (Refused h) a b m n = ap Refused (a ∙ sym b)
one_record (Ok entry) Accepted (Collected _) a b m n = elim b [ ]
one_record (Ok entry) Accepted Done a b m n = elim b [ ]
one_record (Ok entry) Accepted Granted a b m n = elim b [ ]
one_record (Ok entry) (Collected _) s a b m n = elim a [ ]
one_record (Ok entry) Done s a b m n = elim a [ ]
one_record (Ok entry) Granted s a b m n = elim a [ ]
one_record (Err refusal) Accepted s a b m n = elim a [ ]
one_record (Err refusal) (Collected _) s a b m n = elim a [ ]
one_record (Err refusal) Done s a b m n = elim a [ ]
one_record (Err refusal) Granted s a b m n = elim a [ ]
one_record (Err refusal) (Refused g) Accepted a b m n = elim b [ ]
one_record (Err refusal) (Refused g) (Collected _) a b m n = elim b [ ]
one_record (Err refusal) (Refused g) Done a b m n = elim b [ ]
one_record (Err refusal) (Refused g) Granted a b m n = elim b [ ]

one_collect : (due : Result Batch Refusal) (r s : Reply) → LegalCollect due r → LegalCollect due s → is_want_of_memory r ≡ false → is_want_of_memory s ≡ false → r ≡ s
one_collect (Ok batch) (Collected x) (Collected y) a b m n = ap Collected (a ∙ sym b)
one_collect (Ok batch) (Collected x) (Refused g) a b m n = absurd (not_memory g b n)
one_collect (Ok batch) (Refused g) s a b m n = absurd (not_memory g a m)
one_collect (Err refusal) (Refused g) (Refused h) a b m n = ap Refused (a ∙ sym b)
one_collect (Ok batch) Accepted s a b m n = elim a [ ]
one_collect (Ok batch) (Collected x) Accepted a b m n = elim b [ ]
one_collect (Ok batch) (Collected x) Done a b m n = elim b [ ]
one_collect (Ok batch) (Collected x) Granted a b m n = elim b [ ]
one_collect (Ok batch) Done s a b m n = elim a [ ]
one_collect (Ok batch) Granted s a b m n = elim a [ ]
one_collect (Err refusal) Accepted s a b m n = elim a [ ]
one_collect (Err refusal) (Collected x) s a b m n = elim a [ ]
one_collect (Err refusal) Done s a b m n = elim a [ ]
one_collect (Err refusal) Granted s a b m n = elim a [ ]
one_collect (Err refusal) (Refused g) Accepted a b m n = elim b [ ]
one_collect (Err refusal) (Refused g) (Collected y) a b m n = elim b [ ]
one_collect (Err refusal) (Refused g) Done a b m n = elim b [ ]
one_collect (Err refusal) (Refused g) Granted a b m n = elim b [ ]

one_close : (due : Result (Unit {0}) Refusal) (r s : Reply) → LegalClose due r → LegalClose due s → r ≡ s
one_close (Ok done) Done Done a b = refl
one_close (Err refusal) (Refused g) (Refused h) a b = ap Refused (a ∙ sym b)
one_close (Ok done) Accepted s a b = elim a [ ]
one_close (Ok done) (Collected _) s a b = elim a [ ]
one_close (Ok done) Done Accepted a b = elim b [ ]
one_close (Ok done) Done (Collected _) a b = elim b [ ]
one_close (Ok done) Done Granted a b = elim b [ ]
one_close (Ok done) Done (Refused h) a b = elim b [ ]
one_close (Ok done) Granted s a b = elim a [ ]
one_close (Ok done) (Refused g) s a b = elim a [ ]
one_close (Err refusal) Accepted s a b = elim a [ ]
one_close (Err refusal) (Collected _) s a b = elim a [ ]
one_close (Err refusal) Done s a b = elim a [ ]
one_close (Err refusal) Granted s a b = elim a [ ]
one_close (Err refusal) (Refused g) Accepted a b = elim b [ ]
one_close (Err refusal) (Refused g) (Collected _) a b = elim b [ ]
one_close (Err refusal) (Refused g) Done a b = elim b [ ]
one_close (Err refusal) (Refused g) Granted a b = elim b [ ]

one_grant : (due : Result (Unit {0}) Refusal) (r s : Reply) → LegalGrant due r → LegalGrant due s → r ≡ s
one_grant (Ok done) Granted Granted a b = refl
one_grant (Err refusal) (Refused g) (Refused h) a b = ap Refused (a ∙ sym b)
one_grant (Ok done) Accepted s a b = elim a [ ]
one_grant (Ok done) (Collected _) s a b = elim a [ ]
one_grant (Ok done) Done s a b = elim a [ ]
one_grant (Ok done) Granted Accepted a b = elim b [ ]
one_grant (Ok done) Granted (Collected _) a b = elim b [ ]
one_grant (Ok done) Granted Done a b = elim b [ ]
one_grant (Ok done) Granted (Refused h) a b = elim b [ ]
one_grant (Ok done) (Refused g) s a b = elim a [ ]
one_grant (Err refusal) Accepted s a b = elim a [ ]
one_grant (Err refusal) (Collected _) s a b = elim a [ ]
one_grant (Err refusal) Done s a b = elim a [ ]
one_grant (Err refusal) Granted s a b = elim a [ ]
one_grant (Err refusal) (Refused g) Accepted a b = elim b [ ]
one_grant (Err refusal) (Refused g) (Collected _) a b = elim b [ ]
one_grant (Err refusal) (Refused g) Done a b = elim b [ ]
one_grant (Err refusal) (Refused g) Granted a b = elim b [ ]

one_reply : (facts : RunFacts) (start : ℕ) (h : History) (e : Event) (r s : Reply)
    → Legal facts start h e r → Legal facts start h e s → is_want_of_memory r ≡ false → is_want_of_memory s ≡ false → r ≡ s
one_reply facts start h (Record recorder instrument attrs value) r s a b m n = one_record _ r s a b m n
one_reply facts start h (Collect reader instrument now) r s a b m n = one_collect _ r s a b m n
one_reply facts start h (Close instrument) r s a b m n = one_close _ r s a b
one_reply facts start h (Grant recorder instrument amount) r s a b m n = one_grant _ r s a b

-- so a run has one list of replies besides out of memory
pub one_run : (facts : RunFacts) (start : ℕ) (h : History) (es : List Event) (rs ss : List Reply)
    → AllLegal facts start h es rs → AllLegal facts start h es ss
    → list_any is_want_of_memory rs ≡ false → list_any is_want_of_memory ss ≡ false → rs ≡ ss
one_run facts start h [] [] [] a b m n = refl
one_run facts start h (e ∷ es) (r ∷ rs) (s ∷ ss) a b m n =
    let p = or_parts (is_want_of_memory r) (list_any is_want_of_memory rs) m in
    let q = or_parts (is_want_of_memory s) (list_any is_want_of_memory ss) n in
    let same : r ≡ s = one_reply facts start h e r s a.0 b.0 p.0 q.0 in
    let others : rs ≡ ss = one_run facts start (record { event = e; reply = r } ∷ h) es rs ss a.1
    (rw same b.1) p.1 q.1 in
    ap (λ (x : Reply). x ∷ rs) same ∙ ap (λ (xs : List Reply). s ∷ xs) others
one_run facts start h [] [] (s ∷ ss) a b m n = elim b [ ]
one_run facts start h [] (r ∷ rs) ss a b m n = elim a [ ]
one_run facts start h (e ∷ es) [] ss a b m n = elim a [ ]
one_run facts start h (e ∷ es) (r ∷ rs) [] a b m n = elim b [ ]
