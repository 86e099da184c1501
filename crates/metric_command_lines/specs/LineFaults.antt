-- Which fault a refusal by clap is.
use Rattle.clap.specs.declared.error.ErrorKind.{ErrorKind}
use Rattle.clap.specs.declared.error.ErrorKind.TheVariants.{OutOfMemory}
use Rattle.metric_command_lines.specs.declared.kit.line.LineFault.{LineFault}
use Rattle.metric_command_lines.specs.declared.kit.line.LineFault.TheVariants.{Usage, Memory}

-- out of memory, and everything else is a misuse; also a call for help, and for a version
abbrev pub line_fault : ErrorKind → LineFault
line_fault OutOfMemory = Memory
line_fault _ = Usage
