-- Where the shape of a certificate is wrong.
use Rattle.std.specs.Prelude.{ℕ, List, codes}
use Rattle.metric_cert.specs.declared.fault.CertFault.{CertFault}
use Rattle.metric_cert.specs.declared.fault.CertFault.TheVariants.{NotToml, Shape, Memory}
use Rattle.metric_cert.specs.declared.fault.CertList.{CertList}
use Rattle.metric_cert.specs.declared.fault.CertList.TheVariants as lists
use Rattle.metric_cert.specs.declared.fault.CertPlace.{CertPlace}
use Rattle.metric_cert.specs.declared.fault.CertPlace.TheVariants.{Top}

-- the name in files
abbrev pub list_name : CertList → List ℕ
list_name lists.Reason = codes "reason"
list_name lists.Stream = codes "stream"
list_name lists.Bound = codes "bound"
list_name lists.Order = codes "order"

-- the shape of the certificate as a whole
abbrev pub misshapen : CertFault
misshapen = Shape Top

-- the same fault, of the table of this place
abbrev pub at : CertPlace → CertFault → CertFault
at place NotToml = NotToml
at place (Shape inner) = Shape place
at place Memory = Memory
