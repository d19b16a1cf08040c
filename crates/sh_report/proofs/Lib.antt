pub mod CertificateLemmas
pub mod LintLemmas
pub mod PrintLemmas
pub mod RunLemmas
pub mod PromiseLemmas
pub mod ReadLemmas
