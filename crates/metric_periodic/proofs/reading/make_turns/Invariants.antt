use Rattle.std.proofs.Common.{◌+◌, ◌≤◌}
use Rattle.metric_io.specs.Counts.{higher_count}
use Rattle.metric_export.specs.ExporterCalls.{calls_of}
use Rattle.metric_periodic.specs.Turns.{AreTurns, progress}
use Rattle.metric_periodic.proofs.reading.make_turns.Given as goal

-- The ticker was asked once in each turn so far.
abbrev pub invariant-loop-turn : goal.invariant-loop-turn
invariant-loop-turn g l =
    record {
      most : g.T.Ticker.asked l.ticker ≤ g.T.Ticker.asked l.fn.ticker + l._turn;
      least : higher_count (g.T.Ticker.asked l.fn.ticker) l._turn ≤ g.T.Ticker.asked l.ticker;
      turns : AreTurns g.T.Ticker.next_gives l.provider
          (calls_of g.E.MetricExporter l.provider.plan) l._turn
          (progress l.fn.ticker 0 l.fn.reading.seat l.fn.reading.exports)
          (progress l.ticker l.last l.reading.seat l.reading.exports);
    }
