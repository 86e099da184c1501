-- Where the output is an input, or a file is not read, nothing else is done.
use Rattle.std.proofs.Common.{Err, inl, refl}
use Rattle.wormweekly_commands.specs.declared.fault.ConsoleFault.TheVariants.{Overwrites}
use Rattle.wormweekly_commands.proofs.Devices.{unread_is_unstarted}
use Rattle.wormweekly_commands.proofs.program.run_files.Goals as goal

pub returns-in-Some : goal.returns-in-Some
returns-in-Some g c = record {
  end = Err (Overwrites c.in-Some.role);
  runs = inl (c.in-Some.ensures, (refl, refl));
  is_status = c.stop_in_form.ensures;
}

pub returns-in-Err : goal.returns-in-Err
returns-in-Err g c = record {
  end = Err c.in-Err.fault;
  runs = inl (unread_is_unstarted (g.F.Folder.same c.args.folder.now) c.args.request.now.files c.in-Err.fault c.in-Err.ensures.unread, (refl, refl));
  is_status = c.stop_in_form-in-Err.ensures;
}
