-- The code is written, or it is what the file has.
use Rattle.std.proofs.Common.{◌≡◌, Some, None, inl, refl, sym}
use Rattle.wormweekly_commands.specs.Runs.{known_by}
use Rattle.wormweekly_commands.proofs.PutCode.{put_compared, put_written}
use Rattle.wormweekly_commands.proofs.binding.put_code.Goals as goal

pub returns-in-Ok : goal.returns-in-Ok
returns-in-Ok g c = inl (
  refl,
  record {
    parts = c.args.texts.now.parts;
    contents = c.args.catalogue.now;
    code = c.as_bytes.result.now;
    are_sources = c.requires.read;
    opened = c.requires.opened;
    config_read = c.requires.config_read;
    put = put_written (known_by g.F.Folder.held g.F.Folder.same c.args.folder.now) c.args.request.now.files.bound c.args.request.now.files c.as_bytes.result.now _ c.in_default.is c.in-Ok.ensures.delivered;
  },
)

pub returns-in-Ok-true : goal.returns-in-Ok-true
returns-in-Ok-true g c = inl (
  refl,
  record {
    parts = c.args.texts.now.parts;
    contents = c.args.catalogue.now;
    code = c.args.code.now;
    are_sources = c.requires.read;
    opened = c.requires.opened;
    config_read = c.requires.config_read;
    put = put_compared (known_by g.F.Folder.held g.F.Folder.same c.args.folder.now) c.args.request.now.files.bound c.args.request.now.files c.args.code.now _ c.in-Some.path c.in-Some.is (c.in-Ok-true.ensures.same c.in-Ok-true.field-0-test) (refl, refl);
  },
)
