-- How two lists of points that rise become one, point by point.
use Rattle.std.specs.Prelude.{◌≡◌, ◌+◌, ◌<◌, ℕ, Bool, true, List, [], ◌∷◌, Option, Some}
use Rattle.std.specs.Prelude.{length}
use Rattle.std.specs.Cmp.Lexicographic.{slice_cmp}
use Rattle.std.specs.Ordering.{nat_cmp}
use Rattle.std.specs.declared.cmp.Ordering.{Ordering}
use Rattle.std.specs.declared.cmp.Ordering.TheVariants.{Equal}
use Rattle.metric_history.specs.declared.batch.Point.{Point}
use Rattle.metric_lanes.specs.Joined.{joined}
use Rattle.metric_lanes.specs.Together.{IsBeforeFirst}
use Rattle.metric_lanes.specs.declared.together.Next.{Next}

-- a point of both lanes
abbrev pub joined_point : Point → Point → Point
joined_point a b = record { set = a.set; value = joined a.value b.value }

-- the order of two set keys
abbrev pub set_order : Option (List ℕ) → Option (List ℕ) → Ordering
set_order (Some a) (Some b) = slice_cmp nat_cmp a b
set_order a b = Equal

-- the point that comes before all others of the other lane first, and those of both joined
pub data Merges : List Point → List Point → List Point → Type 0 where
  done : Merges [] [] []
  first : {a : Point} {xs ys zs : List Point} → IsBeforeFirst a.set ys → Merges xs ys zs
      → Merges (a ∷ xs) ys (a ∷ zs)
  second : {b : Point} {xs ys zs : List Point} → IsBeforeFirst b.set xs → Merges xs ys zs
      → Merges xs (b ∷ ys) (b ∷ zs)
  both : {a b : Point} {xs ys zs : List Point} → a.set ≡ b.set → Merges xs ys zs
      → Merges (a ∷ xs) (b ∷ ys) (joined_point a b ∷ zs)

-- what is left of points, the first of which was taken or not
abbrev pub rest_of : Bool → List Point → List Point
rest_of true (p ∷ points) = points
rest_of taken points = points

-- a point of the points put together, of either lane or of both
abbrev pub next_of : Point → Bool → Bool → Next
next_of point of_first of_second =
    record { point = point; is_of_first = of_first; is_of_second = of_second }

-- The next point is one of those that are left, and with what is then left it is all.
pub record IsNext (left right : List Point) (next : Next) : Type 0 where
  pub fewer : length (rest_of next.is_of_first left) + length (rest_of next.is_of_second right)
      < length left + length right
  pub goes_on : (rest : List Point)
      → Merges (rest_of next.is_of_first left) (rest_of next.is_of_second right) rest
      → Merges left right (next.point ∷ rest)
