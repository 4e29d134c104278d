pub mod FreeResponses
