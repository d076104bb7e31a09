pub mod RowTables
pub mod Certificates
pub mod ReadingCertificates
pub mod PageTables
pub mod Checking
pub mod inner
pub mod CertificateFields
pub mod TablesModel
