-- The test that computes is the definition.
use Rattle.std.proofs.Common.{◌≡◌, rules}
use Rattle.metric_glob.specs.Matching.{is_match}
use Rattle.metric_glob.specs.MatchingLaws.{is_match-Decides}
use Rattle.metric_glob.proofs.pattern.Pattern.matches.Goals as goal

pub returns-clause-test : goal.returns-clause-test
returns-clause-test c =
    let value : c.matches_text.result ≡ is_match c.args.self.now c.args.name.now = search rules in
    rw value (is_match-Decides c.args.self.now c.args.name.now)
