-- Lemmas on which the proof stands that the machine is one of the rules: its `impl` names that proof.
pub mod Waits
pub mod Homes
pub mod Lawful
pub mod Waiting
pub mod Serving
pub mod Kept
pub mod Steps
pub mod Outcomes
pub mod Goes
pub mod Leaves
pub mod MachineIsFlat
