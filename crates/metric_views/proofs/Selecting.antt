-- What the test of a view's criteria is proved by.
use Rattle.metric_views.specs.SelectionLaws.{selects-Decides}

pub ruleset selecting = (selects-Decides)
