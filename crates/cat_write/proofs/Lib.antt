pub mod NoFloats
pub mod PlansAgain
pub mod Soundness
pub mod StepsAgain
pub mod TermsAgain
pub mod Texts
