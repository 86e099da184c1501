use Rattle.std.proofs.Common.{map}
use Rattle.std.specs.List.{filter_map}
use Rattle.metric_text.specs.ListLaws.{joined_is_led}
use Rattle.metric_otlp.specs.Members.{member_json}
use Rattle.metric_otlp.proofs.MemberLaws.{all_shown}
use Rattle.metric_otlp.proofs.member.push_joined.Goals as goal

pub returns : goal.returns
returns c =
    rw (
      joined_is_led (λ text. text) (filter_map (λ member. member) (map member_json c.args.members.now)),
      ← all_shown c.args.members.now,
    )
    c.push_members.ensures
