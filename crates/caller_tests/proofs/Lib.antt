pub mod TicketParts
