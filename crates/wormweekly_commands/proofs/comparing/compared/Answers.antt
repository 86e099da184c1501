-- the changes are those of the two sides
use Rattle.std.proofs.Common.{◌∙◌, ap, ℕ, List}
use Rattle.metric_views.specs.declared.stream.Stream.{Stream}
use Rattle.metric_diff.specs.Changes.{plan}
use Rattle.wormweekly_commands.specs.Series.{all_series}
use Rattle.wormweekly_commands.proofs.Sides.{same_changes}
use Rattle.wormweekly_commands.proofs.comparing.compared.Goals as goal

pub returns-clause-ok : goal.returns-clause-ok
returns-clause-ok c =
    let old = c.in_ok-old.old in
    let new = c.in_ok-new.new in
    let olds = c.in_ok-old_streams.ensures.list in
    let news = c.in_ok-new_streams.ensures.list in
    record {
      old = c.in_ok-old.ensures.ok;
      new = c.in_ok-new.ensures.ok;
      claim = c.in_ok-claim.ensures.ok;
      programs = c.in_ok-programs.ensures;
      changes =
          c.in_ok-changes.ensures.exact
          ∙ same_changes _ _ _ _
          (c.side_of-old_side.ensures
          ∙ ap (λ (s : List ℕ). plan old.declared.catalogue old.declared.config c.in_ok-old_streams.old_streams s old.rooms) (c.in_ok-old_series.ensures ∙ ap (all_series old.declared.catalogue) c.as_slice.ensures.items)
          ∙ ap (λ (s : List Stream). plan old.declared.catalogue old.declared.config s (all_series old.declared.catalogue s) old.rooms) olds)
          (c.side_of-new_side.ensures
          ∙ ap (λ (s : List ℕ). plan new.declared.catalogue new.declared.config c.in_ok-new_streams.new_streams s new.rooms) (c.in_ok-new_series.ensures ∙ ap (all_series new.declared.catalogue) c.as_slice-2.ensures.items)
          ∙ ap (λ (s : List Stream). plan new.declared.catalogue new.declared.config s (all_series new.declared.catalogue s) new.rooms) news);
    }
