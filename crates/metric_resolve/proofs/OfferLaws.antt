-- What the offers of the instruments say of the streams of a reader.
use Rattle.std.proofs.Common.{◌≡◌, ℕ, zero, suc, ◌+◌, ◌<◌, Bool, true, false, cond, ◌||◌, filter, map, List, [], ◌∷◌, ◌++◌, length, take, get_or, Option, Some, None, slice_get, refl, sym, ap, subst, ◌∙◌, arith, if◌then◌else◌}
use Rattle.std.specs.List.{cons_option, enumerate_from, filter_map, flat_map, list_any, range_with_len}
use Rattle.std.proofs.lemmas.List.{append-nil, take_more}
use Rattle.std.proofs.lemmas.List.Elements.{filter_map-append}
use Rattle.std.proofs.lemmas.List.FromFn.{get_or-enumerate_from, length-enumerate_from}
use Rattle.metric_contents.specs.declared.contents.Contents.{Contents}
use Rattle.metric_contents.specs.declared.contents.Instrument.{Instrument}
use Rattle.metric_views.specs.declared.config.Config.{Config}
use Rattle.metric_views.specs.declared.config.Reader.{Reader}
use Rattle.metric_views.specs.declared.config.View.{View}
use Rattle.metric_views.specs.declared.stream.Fill.{Fill}
use Rattle.metric_views.specs.declared.stream.Fill.TheVariants.{Unfit, Dropped, Kept}
use Rattle.metric_views.specs.declared.stream.Stream.{Stream}
use Rattle.metric_views.specs.declared.template.Template.{Template}
use Rattle.metric_views.specs.Streams.{fill_at, fill_by, no_settings, template_of}
use Rattle.metric_resolve.specs.declared.offers.Offer.{Offer}
use Rattle.metric_resolve.specs.Applying.{all_views, applies, applying, is_selected}
use Rattle.metric_resolve.specs.Offers.{AreOffers, IsOffer, streams_of_offer, view_template}
use Rattle.metric_resolve.specs.Resolved.{is_fit, kept, kept_of, stream_at, streams_of_instrument, streams_of_reader}
use Rattle.metric_resolve.proofs.Fills.{applies-selected, applies-unselected, streams_by, streams_of_instrument-none, streams_of_instrument-some}

-- a fact of each element with its number, with one element more
pub each_more : {Y : Type 0} (P : ℕ → Y → Type 0) (ys : List Y) (y : Y) → ((k : ℕ) (z : Y) → slice_get ys k ≡ Some z → P k z) → P (length ys) y
    → (k : ℕ) (z : Y) → slice_get (ys ++ y ∷ []) k ≡ Some z → P k z
each_more P [] y all last zero z e = let same : y ≡ z = cc in subst (P 0) same last
each_more P [] y all last (suc k) z e = absurd cc
each_more P (x ∷ xs) y all last zero z e = all 0 z e
each_more P (x ∷ xs) y all last (suc k) z e = each_more (λ n w. P (suc n) w) xs y (λ j w at. all (suc j) w at) last k z e

-- pieces by element are pieces by number
pub flat_map-numbers : {Y A : Type 0} (f : ℕ → List A) (g : Y → List A) (a : ℕ) (ys : List Y) → ((k : ℕ) (y : Y) → slice_get ys k ≡ Some y → g y ≡ f (a + k))
    → flat_map g ys ≡ flat_map f (range_with_len a (length ys))
flat_map-numbers f g a [] each = refl
flat_map-numbers f g a (y ∷ ys) each =
    let here : a + 0 ≡ a = omega arith in
    let first : g y ≡ f a = each 0 y refl ∙ ap f here in
    let rest = flat_map-numbers f g (a + 1) ys (λ k z at. let there : a + suc k ≡ a + 1 + k = omega arith in each (suc k) z at ∙ ap f there) in
    cc

-- the next element with its number
pub enumerate_more : {X : Type 0} (xs : List X) (n : ℕ) (x : X) → n < length xs → x ≡ get_or xs n x → take (n + 1) (enumerate_from 0 xs) ≡ take n (enumerate_from 0 xs) ++ (n, x) ∷ []
enumerate_more {X} xs n x within is =
    let long = length-enumerate_from 0 xs in
    let here : 0 + n ≡ n = omega arith in
    take_more (enumerate_from 0 xs) n (n, x) (omega arith)
    ∙ ap (λ (p : ℕ × X). take n (enumerate_from 0 xs) ++ p ∷ []) (get_or-enumerate_from 0 xs n (n, x) within)
    ∙ (λ j. take n (enumerate_from 0 xs) ++ (here j, sym is j) ∷ [])

-- one view more, which selects or does not
pub templates_more : (f : ℕ × View → Option Template) (views : List View) (n : ℕ) (v : View) (before after : List Template) → n < length views → v ≡ get_or views n v
    → before ≡ filter_map f (take n (enumerate_from 0 views)) → after ≡ before ++ cons_option (f (n, v)) []
    → after ≡ filter_map f (take (n + 1) (enumerate_from 0 views))
templates_more f views n v before after within is so_far pushed =
    let next = ap (filter_map f) (enumerate_more views n v within is) ∙ filter_map-append f (take n (enumerate_from 0 views)) ((n, v) ∷ []) in
    pushed ∙ ap (λ (ts : List Template). ts ++ cons_option (f (n, v)) []) so_far ∙ sym next

module _ (contents : Contents) (config : Config) (r n : ℕ) (reader : Reader) (i : Instrument) (reader_at : slice_get config.readers r ≡ Some reader)
    (at : slice_get contents.instruments n ≡ Some i) where
  -- what the instrument offers
  pub offered : Offer
  offered = record { by_views = filter_map (view_template contents config n i) (enumerate_from 0 config.views); default = template_of n i None no_settings }

  fill_of_view : (k : ℕ) (v : View) → slice_get config.views k ≡ Some v → fill_at contents config r n (Some k) ≡ Some (fill_by r reader (template_of n i (Some k) v.settings))
  fill_of_view k v e = rw (reader_at, at, e) refl

  fill_of_default : fill_at contents config r n None ≡ Some (fill_by r reader (template_of n i None no_settings))
  fill_of_default = rw (reader_at, at) refl

  stream_of_view : (k : ℕ) (v : View) → slice_get config.views k ≡ Some v → stream_at contents config r n (Some k) ≡ kept (fill_by r reader (template_of n i (Some k) v.settings))
  unfolding stream_at
  stream_of_view k v e = rw (fill_of_view k v e) refl

  first_view : (a : ℕ) (v : View) (vs : List View) → ((k : ℕ) (w : View) → slice_get (v ∷ vs) k ≡ Some w → slice_get config.views (a + k) ≡ Some w) → slice_get config.views a ≡ Some v
  first_view a v vs each = let here : a ≡ a + 0 = omega arith in ap (slice_get config.views) here ∙ each 0 v refl

  other_views : (a : ℕ) (v : View) (vs : List View) → ((k : ℕ) (w : View) → slice_get (v ∷ vs) k ≡ Some w → slice_get config.views (a + k) ≡ Some w)
      → (k : ℕ) (w : View) → slice_get vs k ≡ Some w → slice_get config.views (a + 1 + k) ≡ Some w
  other_views a v vs each k w e = let there : a + 1 + k ≡ a + suc k = omega arith in ap (slice_get config.views) there ∙ each (suc k) w e

  one_more : (p : Bool) (filled : Fill) (a : ℕ) (xs : List Stream) (ys : List ℕ) → p ≡ is_fit filled → stream_at contents config r n (Some a) ≡ kept filled
      → xs ≡ filter_map (stream_at contents config r n) (map (λ v. Some v) ys)
      → cons_option (kept filled) xs ≡ filter_map (stream_at contents config r n) (map (λ v. Some v) (cond p (a ∷ ys) ys))
  one_more p Unfit a xs ys fit gives rest = rw fit rest
  one_more p Dropped a xs ys fit gives rest = rw (fit, gives) rest
  one_more p (Kept s) a xs ys fit gives rest = rw (fit, gives) (ap (λ (ss : List Stream). s ∷ ss) rest)

  streams_from : (a : ℕ) (vs : List View) → ((k : ℕ) (v : View) → slice_get vs k ≡ Some v → slice_get config.views (a + k) ≡ Some v)
      → filter_map kept (map (fill_by r reader) (filter_map (view_template contents config n i) (enumerate_from a vs)))
      ≡ filter_map (stream_at contents config r n) (map (λ v. Some v) (filter (applies contents config r n) (range_with_len a (length vs))))
  streams_from a [] each = refl
  streams_from a (v ∷ vs) each = by (is_selected contents config n a) refl (streams_from (a + 1) vs (other_views a v vs each))
    where
      here : slice_get config.views a ≡ Some v
      here = first_view a v vs each

      t : Template
      t = template_of n i (Some a) v.settings

      later : List Template
      later = filter_map (view_template contents config n i) (enumerate_from (a + 1) vs)

      numbers : List ℕ
      numbers = filter (applies contents config r n) (range_with_len (a + 1) (length vs))

      by : (b : Bool) → is_selected contents config n a ≡ b → filter_map kept (map (fill_by r reader) later) ≡ filter_map (stream_at contents config r n) (map (λ v. Some v) numbers)
          → filter_map kept (map (fill_by r reader) (cons_option (if b then Some t else None) later))
          ≡ filter_map (stream_at contents config r n) (map (λ v. Some v) (cond (applies contents config r n a) (a ∷ numbers) numbers))
      by true e rest =
          one_more (applies contents config r n a) (fill_by r reader t) a _ numbers
          (applies-selected contents config r n a (fill_by r reader t) e (fill_of_view a v here)) (stream_of_view a v here) rest
      by false e rest = rw (applies-unselected contents config r n a e) rest

  any_from : (a : ℕ) (vs : List View) → ((k : ℕ) (v : View) → slice_get vs k ≡ Some v → slice_get config.views (a + k) ≡ Some v)
      → list_any is_fit (map (fill_by r reader) (filter_map (view_template contents config n i) (enumerate_from a vs))) ≡ list_any (applies contents config r n) (range_with_len a (length vs))
  any_from a [] each = refl
  any_from a (v ∷ vs) each = by (is_selected contents config n a) refl (any_from (a + 1) vs (other_views a v vs each))
    where
      here : slice_get config.views a ≡ Some v
      here = first_view a v vs each

      t : Template
      t = template_of n i (Some a) v.settings

      later : List Template
      later = filter_map (view_template contents config n i) (enumerate_from (a + 1) vs)

      by : (b : Bool) → is_selected contents config n a ≡ b → list_any is_fit (map (fill_by r reader) later) ≡ list_any (applies contents config r n) (range_with_len (a + 1) (length vs))
          → list_any is_fit (map (fill_by r reader) (cons_option (if b then Some t else None) later))
          ≡ (applies contents config r n a || list_any (applies contents config r n) (range_with_len (a + 1) (length vs)))
      by true e rest =
          let fit = applies-selected contents config r n a (fill_by r reader t) e (fill_of_view a v here) in
          rw fit (ap (λ b. is_fit (fill_by r reader t) || b) rest)
      by false e rest = rw (applies-unselected contents config r n a e) rest

  -- the streams of an offer are those of the instrument
  pub offer_streams : streams_of_offer r reader offered ≡ streams_of_instrument contents config r n
  unfolding streams_by offered
  offer_streams = by (list_any (applies contents config r n) (all_views config)) refl
    where
      unmoved : (k : ℕ) (v : View) → slice_get config.views k ≡ Some v → slice_get config.views (0 + k) ≡ Some v
      unmoved k v e = let here : 0 + k ≡ k = omega arith in ap (slice_get config.views) here ∙ e

      streams : filter_map kept (map (fill_by r reader) (filter_map (view_template contents config n i) (enumerate_from 0 config.views))) ≡ streams_by contents config r n (applying contents config r n)
      streams = streams_from 0 config.views unmoved

      by : (b : Bool) → list_any (applies contents config r n) (all_views config) ≡ b → streams_of_offer r reader offered ≡ streams_of_instrument contents config r n
      by true e =
          rw (any_from 0 config.views unmoved ∙ e)
          (append-nil _ ∙ streams ∙ sym (streams_of_instrument-some contents config r n e))
      by false e =
          rw (any_from 0 config.views unmoved ∙ e)
          (ap (λ (ss : List Stream). ss ++ kept_of (fill_by r reader (template_of n i None no_settings))) streams
          ∙ sym (streams_of_instrument-none contents config r n (fill_by r reader (template_of n i None no_settings)) e fill_of_default))

instrument_streams : (contents : Contents) (config : Config) (r n : ℕ) (reader : Reader) (offer : Offer) → slice_get config.readers r ≡ Some reader
    → IsOffer contents config n offer → streams_of_offer r reader offer ≡ streams_of_instrument contents config r n
unfolding offered
instrument_streams contents config r n reader offer reader_at of =
    rw (of.by_views, of.default) (offer_streams contents config r n reader of.instrument reader_at of.at)

-- the streams of all offers are those of the reader
pub reader_streams : (contents : Contents) (config : Config) (r : ℕ) (reader : Reader) (offers : List Offer) → AreOffers contents config offers → slice_get config.readers r ≡ Some reader
    → flat_map (streams_of_offer r reader) offers ≡ streams_of_reader contents config r
unfolding streams_of_reader
reader_streams contents config r reader offers are reader_at =
    flat_map-numbers (streams_of_instrument contents config r) (streams_of_offer r reader) 0 offers one
    ∙ ap (λ (n : ℕ). flat_map (streams_of_instrument contents config r) (range_with_len 0 n)) are.count
  where
    one : (k : ℕ) (o : Offer) → slice_get offers k ≡ Some o → streams_of_offer r reader o ≡ streams_of_instrument contents config r (0 + k)
    one k o e =
        let here : k ≡ 0 + k = omega arith in
        instrument_streams contents config r k reader o reader_at (are.each k o e) ∙ ap (streams_of_instrument contents config r) here
