use Rattle.std.proofs.Common.{◌≡◌, ◌∙◌, ap, refl, Bool, Option, Some, None, false, option_map, codes}
use Rattle.std.specs.Option.{option_eq, option_map_or}
use Rattle.std.specs.Borrow.{Bor}
use Rattle.std.specs.Str.{bytes_eq}
use Rattle.clap.proofs.WalkLemmas.{first_value-rows}
use Rattle.clap.specs.Words.{Text, found_of}
use Rattle.metric_command_lines.proofs.kit.reading.is_given.Goals as goal

-- a comparison with a text goes by the bytes
compared : (eq : Bor Text → Bor Text → Bool) (wanted : Bor Text) → ((text : Bor Text) → eq text wanted ≡ bytes_eq text.now wanted.now)
    → (read : Option (Bor Text)) → option_eq eq read (Some wanted) ≡ option_map_or (λ text. bytes_eq text wanted.now) (option_map (λ text. text.now) read) false
compared eq wanted by_bytes None = refl
compared eq wanted by_bytes (Some text) = by_bytes text

pub returns : goal.returns
returns c =
    c.eq.ensures
    ∙ compared _ _ (λ text. refl) c.get_str.result
    ∙ ap (λ read. option_map_or (λ text. bytes_eq text (codes "true")) read false) (c.get_str.ensures ∙ first_value-rows (found_of c.args.flags.now) c.args.flag.now)
