-- a text that is not of format 3 is opened as it is read
use Rattle.std.proofs.Common.{◌≡◌, false, ℕ, List, Option, Some, None, Result, codes, refl, subst}
use Rattle.toml.specs.Data.{Members, get_member}
use Rattle.toml.specs.Parse.{parse_document}
use Rattle.metric_base.specs.Steps.{Gives}
use Rattle.metric_contents.specs.declared.contents.Contents.{Contents}
use Rattle.metric_catalogue.specs.declared.fault.CatalogueFault.{CatalogueFault}
use Rattle.metric_catalogue.specs.declared.fault.CatalogueFault.TheVariants.{Memory}
use Rattle.metric_catalogue.specs.Catalogues.{catalogue_of, is_shared, is_three, opened_of}
use Rattle.metric_catalogue.proofs.catalogue.Catalogue.open.Goals as goal

opened_plain : (text : List ℕ) → is_shared text ≡ false → opened_of text ≡ catalogue_of text
unfolding opened_of catalogue_of
opened_plain text e = by (parse_document text) refl
  where
    by : (o : Option Members) → parse_document text ≡ o → opened_of text ≡ catalogue_of text
    by None is = rw is refl
    by (Some table) is = let plain : is_three (get_member (codes "format") table) ≡ false = rw is at e in rw (is, plain) refl

pub returns-clause-read : goal.returns-clause-read
returns-clause-read c = λ plain. subst (λ (r : Result Contents CatalogueFault). Gives Memory c.opened.result r) (opened_plain c.args.text.now plain) c.opened.ensures
