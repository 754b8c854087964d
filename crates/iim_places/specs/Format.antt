pub mod Admitted
pub mod Causes
pub mod Streams
pub mod Open
pub mod Tickets
pub mod TicketForm
pub mod Faults
