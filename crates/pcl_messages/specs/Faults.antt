-- What the program says of a fault, and its status.
use Rattle.std.specs.Prelude.{ℕ, List, ◌++◌, codes, decimal}
use Rattle.pcl_base.specs.Refusal.{refusal_text}
use Rattle.pcl_streams.specs.declared.fault.Fault.{Fault}
use Rattle.pcl_streams.specs.declared.fault.Fault.TheVariants.{Refused, Memory, ReadFault, TooLong, CertificateTooLong, WriteFault, NoSuchPage}

abbrev pub text_of : Fault → ℕ → List ℕ
text_of (Refused refusal) page = codes "refused: " ++ refusal_text refusal
text_of NoSuchPage page = codes "no page " ++ decimal page
text_of ReadFault page = codes "cannot read"
text_of TooLong page = codes "input too long"
text_of CertificateTooLong page = codes "certificate too long"
text_of WriteFault page = codes "cannot write"
text_of Memory page = codes "out of memory"

abbrev pub line_of : Fault → ℕ → List ℕ
line_of fault page = codes "pclmin: " ++ text_of fault page ++ codes "\n"

abbrev pub status_for : Fault → ℕ
status_for (Refused refusal) = 1
status_for NoSuchPage = 1
status_for other = 3
