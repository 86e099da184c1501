-- What is tested of the orders of a certificate.
use Rattle.std.specs.Prelude.{◌≡◌, ℕ, ◌+◌, All, AllPairs, List, [], ◌∷◌, Some, length, slice_get}
use Rattle.metric_contents.specs.declared.contents.Contents.{Contents}
use Rattle.metric_views.specs.declared.config.Config.{Config}
use Rattle.metric_views.specs.declared.stream.Stream.{Stream}
use Rattle.metric_cert.specs.declared.order.ReaderOrder.{ReaderOrder}
use Rattle.metric_cert.specs.Valid.{IsBelow, IsStreamOf}
use Rattle.metric_resolve.specs.Laws.{identity_at}

-- The identity of the stream of one number is below that of another.
abbrev pub RisesTo : Contents → List Stream → ℕ → ℕ → Type 0
RisesTo contents streams a b =
    IsBelow (identity_at contents streams a) (identity_at contents streams b)

-- The order is of the reader of this number, and names streams of its own so that
-- their identities rise strictly.
pub record IsOwnOrder (contents : Contents) (streams : List Stream) (reader : ℕ)
    (order : ReaderOrder) : Type 0 where
  pub numbered : order.reader ≡ reader
  pub own : All (IsStreamOf streams reader) order.streams
  pub rising : AllPairs (RisesTo contents streams) order.streams

-- The same of each order, of which the first is of reader 0.
abbrev pub AreOwnOrders : Contents → List Stream → List ReaderOrder → Type 0
AreOwnOrders contents streams orders =
    (k : ℕ) (order : ReaderOrder) → slice_get orders k ≡ Some order
    → IsOwnOrder contents streams k order

-- how many streams the orders name
abbrev pub named_by : List ReaderOrder → ℕ
named_by [] = 0
named_by (order ∷ orders) = length order.streams + named_by orders

-- # tested orders (profile)
-- One for each reader, of own streams that rise, and as many in all as there are streams.
abbrev pub AreTested : Contents → Config → List Stream → List ReaderOrder → Type 0
AreTested contents config streams orders =
    (length orders ≡ length config.readers) × AreOwnOrders contents streams orders
    × (named_by orders ≡ length streams)
