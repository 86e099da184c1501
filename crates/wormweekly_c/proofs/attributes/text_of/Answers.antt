-- the text is there, or is no UTF-8
use Rattle.std.proofs.Common.{◌≤◌, length, refl, arith}
use Rattle.std.proofs.lemmas.Str.{IsUtf8-from_ascii}
use Rattle.wormweekly_c.proofs.Utf8Laws.{text_none, text_there}
use Rattle.wormweekly_c.proofs.attributes.text_of.Goals as goal

pub from_utf8_unchecked-requires : goal.from_utf8_unchecked-requires
from_utf8_unchecked-requires c = IsUtf8-from_ascii c.split_at.result.0.now (c.if-is_plain.ensures refl)

pub returns-then-is_plain : goal.returns-then-is_plain
returns-then-is_plain c =
    let below : c.args.length ≤ length c.args.texts.now = omega (arith, c.if-length-texts.false) in
    text_there c.args.length c.args.texts.now c.from_utf8_unchecked.result.now c.split_at.result.1.now c.split_at.result.0.now below
    c.split_at.ensures.front c.split_at.ensures.back c.from_utf8_unchecked.ensures (IsUtf8-from_ascii c.split_at.result.0.now (c.if-is_plain.ensures refl))

pub returns-in-Ok : goal.returns-in-Ok
returns-in-Ok c =
    let below : c.args.length ≤ length c.args.texts.now = omega (arith, c.if-length-texts.false) in
    text_there c.args.length c.args.texts.now c.in-Ok.text.now c.split_at.result.1.now c.split_at.result.0.now below
    c.split_at.ensures.front c.split_at.ensures.back c.in-Ok.ensures.cases.0 c.in-Ok.ensures.cases.1

pub returns-in-Err : goal.returns-in-Err
returns-in-Err c = text_none c.args.length c.args.texts.now c.split_at.result.0.now c.split_at.ensures.front c.in-Err.ensures.cases.0
