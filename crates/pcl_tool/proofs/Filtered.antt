-- What writers hold after a filter.
use Rattle.std.proofs.Common.{ℕ, ◌≤◌, List, length, Option, Result, Ok, Err, inl, inr, arith}
use Rattle.pcl_tool.proofs.Names.{Appends, Keeps-refl, Dpi, Format, Fault, Refused, Memory, ReadFault, TooLong, CertificateTooLong, WriteFault, IsReadAll, IsWritten, IsCertifiedJobOf, IsRead, IsFiltered, IsFilteredCert, IsOutputWritten, input_limit, IsJobWritten, IsWrittenJob}

-- the job wasn't read whole, and nothing was written
pub not_read : (dpi : Dpi) (given left out : Option (List ℕ)) (fault : Fault)
    → IsReadAll given left input_limit (Err fault) → IsFiltered dpi given left out out (Err fault)
not_read dpi given left out TooLong h = (h.0, h.1, h.2, Keeps-refl out)
not_read dpi given left out ReadFault h = (h, Keeps-refl out)
not_read dpi given left out Memory h = (h, Keeps-refl out)
not_read dpi given left out fault h = absurd h

-- the job was refused or memory ran out, and nothing was written
pub not_performed : (dpi : Dpi) {given left : Option (List ℕ)} (out : Option (List ℕ)) {job : List ℕ} (fault : Fault)
    → IsRead given left job → length job ≤ input_limit → IsJobWritten dpi job (Err fault) → IsFiltered dpi given left out out (Err fault)
not_performed dpi out {job} (Refused refusal) r short h = (job, r, h, Keeps-refl out)
not_performed dpi out {job} Memory r short h = ((job, r.given, omega arith), Keeps-refl out)
not_performed dpi out fault r short h = absurd h

-- the job was written, or a prefix of it
pub filtered : {dpi : Dpi} {given left : Option (List ℕ)} (old new : Option (List ℕ)) {job output : List ℕ}
    (result : Result (Unit {0}) Fault) → IsRead given left job → IsWrittenJob dpi job output → IsWritten old new output result
    → IsFiltered dpi given left old new result
filtered old new {job} {output} (Ok done) r j w = (job, output, r, j, w)
filtered old new {job} {output} (Err WriteFault) r j w = (job, output, r, j, w)
filtered old new result r j w = absurd w

-- the job wasn't written whole
pub stopped_in_job : {limit : ℕ} (output certificate : List ℕ) (old new cert : Option (List ℕ)) (fault : Fault)
    → length certificate ≤ limit → IsWritten old new output (Err fault)
    → IsOutputWritten limit output certificate old new cert cert (Err fault)
stopped_in_job output certificate old new cert WriteFault short w = (short, inl (w, Keeps-refl cert))
stopped_in_job output certificate old new cert fault short w = absurd w

-- it was, and then the certificate or a prefix of it
pub output_written : {limit : ℕ} (output certificate : List ℕ) (old new cert_old cert_new : Option (List ℕ))
    (result : Result (Unit {0}) Fault) → length certificate ≤ limit → Appends old new output
    → IsWritten cert_old cert_new certificate result → IsOutputWritten limit output certificate old new cert_old cert_new result
output_written output certificate old new cert_old cert_new (Ok done) short a w = (short, a, w)
output_written output certificate old new cert_old cert_new (Err WriteFault) short a w = (short, inr (a, w))
output_written output certificate old new cert_old cert_new result short a w = absurd w

-- the job was written with its certificate, or what happened then
pub filtered_cert : {dpi : Dpi} {format : Format} {given left : Option (List ℕ)} (old new cert_old cert_new : Option (List ℕ))
    {job output certificate : List ℕ} (result : Result (Unit {0}) Fault) → IsRead given left job
    → IsCertifiedJobOf dpi format job output certificate
    → IsOutputWritten input_limit output certificate old new cert_old cert_new result
    → IsFilteredCert dpi format given left old new cert_old cert_new result
filtered_cert old new cert_old cert_new (Ok done) r j w = (_, _, _, r, j, w)
filtered_cert old new cert_old cert_new (Err WriteFault) r j w = (_, _, _, r, j, w)
filtered_cert old new cert_old cert_new (Err CertificateTooLong) r j w = (_, _, _, r, j, w)
filtered_cert old new cert_old cert_new result r j w = absurd w
