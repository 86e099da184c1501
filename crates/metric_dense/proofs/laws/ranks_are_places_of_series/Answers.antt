use Rattle.metric_facts.specs.Ranks.{rank_below}
use Rattle.metric_dense.proofs.Ranking.{rank_unrank, unrank_ordered, unrank_rank}
use Rattle.metric_dense.proofs.laws.ranks_are_places_of_series.Goals as goal

pub returns-clause-below : goal.returns-clause-below
returns-clause-below c = rank_below

pub returns-clause-series : goal.returns-clause-series
returns-clause-series c = unrank_rank

pub returns-clause-ranks : goal.returns-clause-ranks
returns-clause-ranks c = rank_unrank

pub returns-clause-order : goal.returns-clause-order
returns-clause-order c = unrank_ordered
