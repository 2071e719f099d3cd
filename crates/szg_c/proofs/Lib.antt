pub mod HandleSend
pub mod HandleValues
pub mod HandleWalks
pub mod FrontKind
pub mod FrontsStated
pub mod TableKind
pub mod TablebaseKind
pub mod HeldValues
pub mod FrontBlocks
pub mod Values
pub mod TableProbes
pub mod LinesProbed
pub mod Stopped
mod Printing
