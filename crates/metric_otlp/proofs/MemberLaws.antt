-- A member is written by what it has.
use Rattle.std.proofs.Common.{◌≡◌, List, [], ◌∷◌, map, refl}
use Rattle.metric_otlp.specs.declared.member.Member.{Member}
use Rattle.metric_otlp.specs.declared.member.Member.TheVariants.{Text, SomeText, Count, Signed, Time, Enum, Flag}
use Rattle.metric_otlp.specs.declared.member.Member.TheVariants.{Double, Counts, Doubles, Items, Object}
use Rattle.metric_otlp.specs.Json.{text_member, some_text_member, count_member, signed_member, time_member}
use Rattle.metric_otlp.specs.Json.{enum_member, flag_member, double_member, counts_member, doubles_member}
use Rattle.metric_otlp.specs.Json.{items_member, object_member}
use Rattle.metric_otlp.specs.Members.{member_json, shown}

one_shown : (member : Member) → shown member ≡ member_json member
unfolding text_member some_text_member count_member signed_member time_member enum_member flag_member double_member counts_member doubles_member items_member object_member
one_shown (Text name text) = refl
one_shown (SomeText name text) = refl
one_shown (Count name number) = refl
one_shown (Signed name number) = refl
one_shown (Time name number) = refl
one_shown (Enum name number) = refl
one_shown (Flag name flag) = refl
one_shown (Double name number) = refl
one_shown (Counts name numbers) = refl
one_shown (Doubles name numbers) = refl
one_shown (Items name items) = refl
one_shown (Object name text) = refl

pub all_shown : (members : List Member) → map shown members ≡ map member_json members
all_shown [] = refl
all_shown (member ∷ members) = rw (one_shown member, all_shown members) refl
