-- What is read of a certificate is what is spelled there, and the other way round.
use Rattle.pcl_cert.proofs.Names.{ℕ, refl, Dpi, Format, row_numbers_at, list_at, proof_at}
use Rattle.pcl_cert.specs.ReadingCertificates.{table_at, lists_at, proofs_at}
use Rattle.pcl_cert.proofs.Loops.{IsMany}

pub tables_are_many : IsMany row_numbers_at table_at
unfolding table_at
tables_are_many = record { none = λ bytes. refl; more = λ n bytes. refl }

pub lists_are_many : (most : ℕ) → IsMany (list_at most) (λ n. lists_at n most)
unfolding lists_at
lists_are_many most = record { none = λ bytes. refl; more = λ n bytes. refl }

pub proofs_are_many : (dpi : Dpi) (format : Format) → IsMany (proof_at dpi format) (λ n. proofs_at n dpi format)
unfolding proofs_at
proofs_are_many dpi format = record { none = λ bytes. refl; more = λ n bytes. refl }
