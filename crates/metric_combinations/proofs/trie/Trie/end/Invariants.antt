-- What is left of the way leads to the end of the whole.
use Rattle.std.proofs.Common.{◌≡◌, drop}
use Rattle.metric_combinations.specs.Tries.{end_of}
use Rattle.metric_combinations.proofs.trie.Trie.end.Given as goal

abbrev pub invariant-loop-entry : goal.invariant-loop-entry
invariant-loop-entry l = end_of l.self.steps.items l.at (drop l.entry-index l.entries) ≡ end_of l.self.steps.items l.self.root l.entries
